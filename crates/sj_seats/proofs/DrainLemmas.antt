-- Worlds with seats that go on by the events of a drain.
use Rattle.std.proofs.Common.{◌≡◌, ℕ, ◌+◌, ◌<◌, Bool, true, false, if◌then◌else◌, [], map, length, slice_get, Option, Some, None, option_map, refl, ap, sym, ◌∙◌, subst, inl, inr, arith}
use Rattle.std.specs.Prelude.{is_some, ⊤}
use Rattle.std.proofs.lemmas.Bool.{cases_lt}
use Rattle.sj_core.proofs.HaltLemmas.{halted}
use Rattle.sj_core.specs.Nodes.{box_or, node_or, world_by}
use Rattle.sj_core.specs.Refusals.{IsStop}
use Rattle.sj_lang.specs.Place.{Place}
use Rattle.sj_node.specs.declared.node.Node.{Node}
use Rattle.sj_node.specs.declared.refusal.Halt.{Halt}
use Rattle.sj_node.specs.declared.refusal.Halt.TheVariants as halts
use Rattle.sj_node.specs.Node.{spot_node, node_halt}
use Rattle.sj_node.specs.Outs.{waiting_in}
use Rattle.sj_node.specs.Reading.{outs_of}
use Rattle.sj_rules.specs.Mapped.{frame_with}
use Rattle.sj_rules.specs.Node.{acts}
use Rattle.sj_rules.specs.Party.{play_of}
use Rattle.sj_rules.specs.Start.{first_node}
use Rattle.sj_rules.specs.World.{WorldAt}
use Rattle.sj_seat_laws.specs.Calls.{SeatedAt}
use Rattle.sj_seat_laws.specs.SeatedPlay.{Player, seated_play}
use Rattle.sj_seat_laws.specs.SeatRows.{with_player}
use Rattle.sj_seat_laws.specs.SeatsWorld.{player_by}
use Rattle.sj_table.specs.Spots.{place_in}
use Rattle.sj_seats.specs.Calls.{no_calls}
use Rattle.sj_seats.specs.Core.{chair_of, is_seat, seat_by, seats_by}
use Rattle.sj_seats.specs.Draining.{AreIdle, Goes, HasNoLane, IsQuiet, Tries, events_left}
use Rattle.sj_seats.specs.Played.{HasParties, IsEmpty, IsIdle, IsLedBy, IsReached, IsStill, Keeps, Rests, chairs_in, file_in, history_in, nodes_in}
use Rattle.sj_seats.specs.declared.played.Chair.{Chair}
use Rattle.sj_seats.specs.declared.played.PlayedWorld.{PlayedWorld}
use Rattle.sj_seats.proofs.ChairLemmas.{no_seat}
use Rattle.sj_seats.proofs.GoingLemmas.{led_still}
use Rattle.sj_seats.proofs.LiftLemmas.{work_by_file}
use Rattle.sj_seats.proofs.PlayedLemmas.{acts_played}
use Rattle.sj_seats.proofs.RunLemmas.{short}

-- ---- all is as before

pub keeps_none : (c : PlayedWorld) → Keeps c c
keeps_none c = record { file = refl; table = refl; opened = refl; seats = λ q. refl; count = refl }

pub keeps_later : (a b c : PlayedWorld) → Keeps a b → Keeps b c → Keeps a c
keeps_later a b c x y = record { file = y.file ∙ x.file; table = y.table ∙ x.table; opened = y.opened ∙ x.opened; seats = λ q. y.seats q ∙ x.seats q; count = y.count ∙ x.count }

pub rests_none : (c : PlayedWorld) → HasParties c → Rests c c
rests_none c parties = record { world = λ rest. refl; parties = parties; keeps = keeps_none c }

pub rests_later : (a b c : PlayedWorld) → Rests a b → Rests b c → Rests a c
rests_later a b c x y = record { world = λ rest. y.world rest ∙ x.world rest; parties = y.parties; keeps = keeps_later a b c x.keeps y.keeps }

pub empty_still : (c d : PlayedWorld) (from to : ℕ) → Rests c d → IsEmpty c from to → IsEmpty d from to
empty_still c d from to x none = ap (λ (w : WorldAt Place Player). w.lanes from to) (x.world no_calls) ∙ none

pub stays_still : (c d : PlayedWorld) (p : ℕ) → Rests c d → IsStill c p → IsStill d p
stays_still c d p x still = (λ i. acts (seated_play (x.keeps.file i)) p ((x.world no_calls i).nodes p)) ∙ still

pub idle_still : (c d : PlayedWorld) (n p : ℕ) → Rests c d → IsIdle c n p → IsIdle d n p
idle_still c d n p x idle = record { empty = λ from lt. empty_still c d from p x (idle.empty from lt); still = stays_still c d p x idle.still }

-- ---- where nothing is left

pub nothing_waits : (c : PlayedWorld) (p q : ℕ) (giver : Node) → slice_get (nodes_in c) q ≡ Some giver → waiting_in (outs_of giver) p ≡ [] → IsEmpty c q p
nothing_waits c p q giver there none = ap (λ o. box_or o p) there ∙ ap (map (frame_with (place_in giver.table))) none

-- a party that goes by the file, which something stops
pub still_by : (c : PlayedWorld) (p : ℕ) (n : Node) (h : Halt) → slice_get (nodes_in c) p ≡ Some n → is_seat (chairs_in c) p ≡ false → node_halt n ≡ Some h → IsStill c p
still_by c p n h there own stop =
    let w = world_by (file_in c) (nodes_in c) in
    let nobody : seats_by c.table (chairs_in c) no_calls p ≡ None = ap (option_map (seat_by c.table [])) (no_seat (chairs_in c) p own) in
    acts_played (file_in c) (seats_by c.table (chairs_in c) no_calls) w p nobody
    ∙ ap (option_map work_by_file)
    (ap (acts (play_of (file_in c)) p) (ap (node_or (first_node (file_in c) p)) there) ∙ halted (place_in n.table) (length (file_in c).parties) (file_in c).protocols p (spot_node n) h stop)

-- whatever stops it
pub still_where : (c : PlayedWorld) (p : ℕ) (n : Node) (h : Halt) → slice_get (nodes_in c) p ≡ Some n → is_seat (chairs_in c) p ≡ false → IsStop h
    → (h ≡ halts.Ended → node_halt n ≡ Some halts.Ended) → (h ≡ halts.AtLimit → node_halt n ≡ Some halts.AtLimit) → (h ≡ halts.Waits → node_halt n ≡ Some halts.Waits) → IsStill c p
still_where c p n h there own stop e l w = by h refl stop
  where
    by : (k : Halt) → h ≡ k → IsStop k → IsStill c p
    by halts.Ended is s = still_by c p n halts.Ended there own (e is)
    by halts.AtLimit is s = still_by c p n halts.AtLimit there own (l is)
    by halts.Waits is s = still_by c p n halts.Waits there own (w is)
    by halts.NoMemory is s = absurd s
    by halts.Unfit is s = absurd s

none_either : {X : Type 0} (b : Bool) → ◌≡◌ {A = Option X} (if b then None else None) None
none_either true = refl
none_either false = refl

-- a code that makes no call any more
pub seat_still : (c : PlayedWorld) (p : ℕ) → is_seat (chairs_in c) p ≡ true → IsStill c p
seat_still c p seated = by (chair_of (chairs_in c) p) refl seated
  where
    by : (o : Option Chair) → chair_of (chairs_in c) p ≡ o → is_some o ≡ true → IsStill c p
    by None is h = absurd (cc h)
    by (Some chair) is h =
        let w = world_by (file_in c) (nodes_in c) in
        let s : SeatedAt = seat_by c.table [] chair in
        ap (λ (o : Option Chair). acts (seated_play (file_in c)) p (with_player (player_by (option_map (seat_by c.table []) o) (w.nodes p).program) (w.nodes p))) is
        ∙ none_either ((seated_play (file_in c)).is_worn (Rattle.sj_seat_laws.specs.SeatedPlay.seated s))

-- ---- one event

-- nothing was done
pub reached_still : (c d : PlayedWorld) → IsReached c → Rests c d → history_in d ≡ history_in c → IsReached d
reached_still c d reached rests listed = subst (IsLedBy d) (sym listed) (led_still c d (history_in c) reached rests)

-- fewer events are left
pub fewer_left : (c d : PlayedWorld) → IsReached d → length (history_in c) < length (history_in d) → events_left d < events_left c
fewer_left c d reached more = let few = short d (history_in d) reached in omega (arith, few, more)

-- ---- several

pub goes_none : (c : PlayedWorld) → HasParties c → Goes c c ⊤
goes_none c parties = record { grows = omega arith; still = λ same. (rests_none c parties, tt) }

-- there was an event
pub goes_more : (a b c : PlayedWorld) → Goes a b ⊤ → length (history_in b) < length (history_in c) → Goes a c ⊤
goes_more a b c x lt = record { grows = let le = x.grows in omega (arith, le, lt); still = λ same. absurd (let le = x.grows in omega (arith, le, lt, same)) }

-- there was none
pub goes_over : (a b c : PlayedWorld) (P : Type 0) → Goes a b ⊤ → Tries false b c P → Goes a c P
goes_over a b c P x y =
    let same : length (history_in c) ≡ length (history_in b) = ap length y.1 in
    record {
      grows = let le = x.grows in omega (arith, le, same);
      still = λ is. (rests_later a b c (x.still (sym same ∙ is)).0 y.0, y.2);
    }

-- what comes after it, and what is kept then
pub goes_then : (a b c : PlayedWorld) (P Q R : Type 0) → Goes a b P → Goes b c Q → (Rests b c → P → Q → R) → Goes a c R
goes_then a b c P Q R x y both = record {
  grows = let le = x.grows in let more = y.grows in omega (arith, le, more);
  still = λ is.
      let le = x.grows in
      let more = y.grows in
      let first = x.still (omega (arith, le, more, is)) in
      let last = y.still (omega (arith, le, more, is)) in
      (rests_later a b c first.0 last.0, both last.0 first.1 last.1);
}

-- what is reached is left as it is
pub goes_still : (a b : PlayedWorld) (P Q : Type 0) → Goes a b P → (P → Q) → Goes a b Q
goes_still a b P Q x f = record { grows = x.grows; still = λ is. let s = x.still is in (s.0, f s.1) }

-- one lane more
pub lanes_more : (b c : PlayedWorld) (p k : ℕ) → Rests b c → HasNoLane b k p → IsEmpty c k p → HasNoLane c (k + 1) p
lanes_more b c p k x before here from lt =
    elim (cases_lt from k) [
      | inl below ↦ empty_still b c from p x (before from below)
      | inr above ↦ subst (λ (q : ℕ). IsEmpty c q p) (let e : k ≡ from = omega (arith, lt, above) in e) here
    ]

-- one party more
pub idle_more : (b c : PlayedWorld) (k : ℕ) → Rests b c → AreIdle b k → IsIdle c (length (nodes_in c)) k → AreIdle c (k + 1)
idle_more b c k x before here p lt =
    elim (cases_lt p k) [
      | inl below ↦ subst (λ (n : ℕ). IsIdle c n p) (sym x.keeps.count) (idle_still b c (length (nodes_in b)) p x (before p below))
      | inr above ↦ subst (λ (q : ℕ). IsIdle c (length (nodes_in c)) q) (let e : k ≡ p = omega (arith, lt, above) in e) here
    ]

-- nothing is left to do where no party has anything to do
pub all_idle : (c : PlayedWorld) → AreIdle c (length (nodes_in c)) → IsQuiet c
all_idle c idle = record { empty = λ from to lf lt. (idle to lt).empty from lf; still = λ p lt. (idle p lt).still }

-- what an answer says of a try
pub tried_some : (b : Bool) (c d : PlayedWorld) (P : Type 0) → b ≡ true → Tries b c d P → length (history_in c) < length (history_in d)
tried_some true c d P is x = x
tried_some false c d P is x = absurd (cc is)

pub tried_none : (b : Bool) (c d : PlayedWorld) (P : Type 0) → b ≡ false → Tries b c d P → Tries false c d P
tried_none false c d P is x = x
tried_none true c d P is x = absurd (cc is)
