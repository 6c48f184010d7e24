-- An act of a party that goes by the file is never unfit, in a world to which lines lead: where
-- nothing stops its node, the rules have its act.
use Rattle.std.proofs.Common.{◌≡◌, ℕ, ◌<◌, nat_lt, ◌||◌, max, List, [], ◌∷◌, ◌++◌, Bool, true, false, if◌then◌else◌, map, length, slice_get, Option, Some, None, option_map, refl, ap, sym, ◌∙◌, zero, suc, inl, inr}
use Rattle.std.proofs.lemmas.Bool.{le-leb, lt-ltb, ltb-true}
use Rattle.sj_base.specs.declared.EndId.{EndId}
use Rattle.sj_base.specs.declared.Msg.{Msg}
use Rattle.sj_base.specs.declared.Msg.TheVariants as msgs
use Rattle.sj_core.specs.Nodes.{IsSeated, node_or, world_by}
use Rattle.sj_lang.specs.Place.{Place}
use Rattle.sj_lang.specs.FileAt.{FileAt, body_named}
use Rattle.sj_semantics.specs.declared.Want.{Want}
use Rattle.sj_semantics.specs.declared.Want.TheVariants as wants
use Rattle.sj_semantics.specs.Program.{Program}
use Rattle.sj_table.specs.Spots.{place_in, start_in}
use Rattle.sj_rules.specs.Binding.{IsSession, NamesKnown}
use Rattle.sj_rules.specs.Events.{acts_in}
use Rattle.sj_rules.specs.Halts.{halt_by, halt_if, halt_of, is_at_end}
use Rattle.sj_rules.specs.History.{turn_of}
use Rattle.sj_rules.specs.Log.{LineAt}
use Rattle.sj_rules.specs.Mapped.{main_with}
use Rattle.sj_rules.specs.Node.{NodeAt, acts}
use Rattle.sj_rules.specs.Opened.{opened_number}
use Rattle.sj_rules.specs.Party.{IsDone, play_for}
use Rattle.sj_rules.specs.Party.{play_of as play_of_file}
use Rattle.sj_rules.specs.Record.{HeldAt, MainAt, Held, Closed, Expected}
use Rattle.sj_rules.specs.Rows.{Worked}
use Rattle.sj_rules.specs.Start.{first_node}
use Rattle.sj_rules.specs.World.{Turn, WorldAt}
use Rattle.sj_rules_laws.proofs.KeptLemmas.{open_untaken}
use Rattle.sj_rules_laws.proofs.LawfulLemmas.{message_below}
use Rattle.sj_rules_laws.proofs.ProperRunLemmas.{size_of}
use Rattle.sj_rules_laws.proofs.WithinWorldLemmas.{held_few}
use Rattle.sj_core.proofs.LawLemmas.{max_picks}
use Rattle.sj_node.specs.declared.node.Node.{Node}
use Rattle.sj_node.specs.declared.refusal.Halt.{Halt}
use Rattle.sj_node.specs.declared.refusal.Halt.TheVariants as halts
use Rattle.sj_node.specs.declared.slots.Main.{Main}
use Rattle.sj_node.specs.Node.{act_of, has_room, is_below_count, node_at, play_here, spot_node, node_halt, wants_of}
use Rattle.sj_node.specs.Play.{HeadsAre, is_number, names_known, play_with}
use Rattle.sj_node.specs.Slots.{look, main_at}
use Rattle.sj_node.proofs.PlayLemmas.{acts_known, plays_file}
use Rattle.sj_seat_laws.specs.SeatedPlay.{Player, player_binds, seated_play}
use Rattle.sj_seat_laws.specs.SeatsStart.{Callers, IsSeatsCoreRun}
use Rattle.sj_seat_laws.specs.SeatsWorld.{seats_seen}
use Rattle.sj_seat_laws.proofs.SeatsLawfulLemmas.{seats_are_lawful}
use Rattle.sj_seat_laws.proofs.SeatsRunLemmas.{run_acts_unless, run_stands, seats_run}
use Rattle.sj_seats.specs.Calls.{no_calls}
use Rattle.sj_seats.specs.Core.{is_seat, seat_by, seats_by}
use Rattle.sj_seats.specs.Played.{IsLedBy, chairs_in, core_in, file_in, nodes_in}
use Rattle.sj_seats.specs.declared.played.PlayedWorld.{PlayedWorld}
use Rattle.sj_seats.proofs.ChairLemmas.{no_seat}
use Rattle.sj_seats.proofs.FreeLemmas.{unhalted}
use Rattle.sj_seats.proofs.LiftLemmas.{by_file, work_by_file}
use Rattle.sj_seats.proofs.PlayedLemmas.{is_by_file}
use Rattle.sj_seats.proofs.RunLemmas.{run_of}
use Rattle.sj_seats.proofs.StopLemmas.{stops_so}

-- what is in a front is in the whole
get_first : (xs ys : List Msg) (j : ℕ) (m : Msg) → slice_get xs j ≡ Some m → slice_get (xs ++ ys) j ≡ Some m
get_first [] ys j m h = cc
get_first (x ∷ xs) ys zero m h = h
get_first (x ∷ xs) ys (suc j) m h = get_first xs ys j m h

-- what a message names is there
number_so : (parties connects sess : ℕ) → IsSession parties connects sess → is_number connects parties sess ≡ true
number_so parties connects sess (inl lt) = rw (lt-ltb sess connects lt) refl
number_so parties connects sess (inr opened) = rw (le-leb 64 sess opened.0, lt-ltb sess (opened_number parties 0) opened.1) (or_so (nat_lt sess connects))
  where
    or_so : (b : Bool) → (b || true) ≡ true
    or_so true = refl
    or_so false = refl

known_so : (parties connects : ℕ) (m : Msg) → NamesKnown parties connects m → names_known connects parties m ≡ true
known_so parties connects (msgs.Sess sess side keeper) named =
    rw (number_so parties connects sess named.0, lt-ltb side 2 named.1, lt-ltb keeper parties named.2) refl
known_so parties connects (msgs.Int n) named = refl
known_so parties connects (msgs.Bool b) named = refl
known_so parties connects (msgs.Text n) named = refl
known_so parties connects (msgs.Label n) named = refl
known_so parties connects (msgs.More b) named = refl

-- an end with a record is of side 0 or 1
two_sides : {A B : Type 0} → (f : A → B) (b : Bool) (o : Option A) (x : B) → option_map f (if b then o else None) ≡ Some x → b ≡ true
two_sides f true o x k = refl
two_sides f false o x k = absurd (cc k)

below_count : (o : Option (MainAt Place)) → ((h : HeldAt Place) → o ≡ Some (Held h) → h.end.sent < 1000000) → is_below_count o ≡ true
below_count None few = refl
below_count (Some (Held h)) few = lt-ltb h.end.sent 1000000 (few h refl)
below_count (Some (Closed e)) few = refl
below_count (Some (Expected keeper place ds)) few = refl

room_for : (main : EndId → Option (MainAt Place)) → ((e : EndId) (h : HeldAt Place) → main e ≡ Some (Held h) → h.end.sent < 1000000) → (want : Want) → has_room main want ≡ true
room_for main few wants.Local = refl
room_for main few (wants.Send e m) = below_count (main e) (few e)
room_for main few (wants.Delegate e y) = below_count (main e) (few e)
room_for main few (wants.Take e a) = refl
room_for main few (wants.Close e) = refl
room_for main few (wants.Request q to) = refl
room_for main few (wants.Accept q from) = refl
room_for main few wants.Ended = refl

if_so : {A : Type 0} → (b : Bool) (x : Option A) → b ≡ true → (if b then x else None) ≡ x
if_so true x k = refl
if_so false x k = absurd (cc k)

module _ (c : PlayedWorld) (past : List LineAt) (led : IsLedBy c past) (p : ℕ) (n : Node) (there : slice_get (nodes_in c) p ≡ Some n) (own : is_seat (chairs_in c) p ≡ false) where
  abbrev file : FileAt
  file = led.accepted.file

  abbrev core : WorldAt Place Player
  core = core_in c no_calls

  abbrev callers : Callers
  callers = Rattle.sj_seats.specs.Played.callers_in c past no_calls

  abbrev turns : List Turn
  turns = map turn_of past

  run : IsSeatsCoreRun file callers turns core
  run = run_of c past led

  nobody : seats_by c.table (chairs_in c) no_calls p ≡ None
  nobody = ap (option_map (seat_by c.table [])) (no_seat (chairs_in c) p own)

  here : (world_by (file_in c) (nodes_in c)).nodes p ≡ node_at n
  here = ap (node_or (first_node (file_in c) p)) there

  core_here : core.nodes p ≡ by_file (node_at n)
  core_here = is_by_file (file_in c) (seats_by c.table (chairs_in c) no_calls) (world_by (file_in c) (nodes_in c)) p nobody ∙ ap by_file here

  seat : IsSeated (file_in c) led.parties.seats.table p n
  seat = led.parties.seats.each p n there

  -- it plays by the file's protocols
  own_play : play_here n ≡ play_with (body_named file.protocols) (length file.connects) (length file.parties)
  own_play =
      (λ i. play_with (start_in (seat.table i)) (seat.connects i) (seat.parties i))
      ∙ (λ i. play_with (λ q. led.parties.seats.starts q i) (length (file_in c).connects) (length (file_in c).parties))
      ∙ ap (λ (f : FileAt). play_with (body_named f.protocols) (length f.connects) (length f.parties)) led.accepted.same

  side_of : (e : EndId) (h : HeldAt Place) → (node_at n).main e ≡ Some (Held h) → e.side < 2
  side_of e h is =
      ltb-true e.side 2 (two_sides {A = Main} (λ x. main_with (place_in n.table) (main_at x)) (nat_lt e.side 2) _ (Held h) (merged ∙ is))
    where
      merged : option_map (λ x. main_with (place_in n.table) (main_at x)) (look n.mains.items e) ≡ (node_at n).main e
      merged = twice (look n.mains.items e)
        where
          twice : (o : Option Main) → option_map (λ x. main_with (place_in n.table) (main_at x)) o ≡ option_map (main_with (place_in n.table)) (option_map main_at o)
          twice None = refl
          twice (Some x) = refl

  in_world : (e : EndId) (h : HeldAt Place) → (node_at n).main e ≡ Some (Held h) → (core.nodes p).main e ≡ Some (Held h)
  in_world e h is = ap (λ (m : NodeAt Place Player). m.main e) core_here ∙ is

  few : (e : EndId) (h : HeldAt Place) → (node_at n).main e ≡ Some (Held h) → h.end.sent < 1000000
  few e h is =
      let s = run_stands file callers led.accepted.accepted turns core run in
      let lawful = seats_are_lawful file (length (acts_in turns)) s.0 (seats_run file callers led.accepted.accepted (acts_in turns) s.0 s.1) led.accepted.accepted.within.parties in
      (held_few (length file.parties) IsDone (seated_play file) player_binds max max_picks core (seats_seen s.0) s.2 lawful refl p e (side_of e h is) h (in_world e h is)).0

  heads : HeadsAre (names_known (length file.connects) (length file.parties)) (node_at n)
  heads e h m rest is head =
      let s = run_stands file callers led.accepted.accepted turns core run in
      let all = seats_run file callers led.accepted.accepted (acts_in turns) s.0 s.1 in
      let front = open_untaken IsDone player_binds Rattle.sj_lang.specs.Place.done core (seats_seen s.0) s.2 p e h (side_of e h is) (in_world e h is) in
      known_so (length file.parties) (length file.connects) m
      (message_below file (size_of file) s.0.world all.sound all.proper e 0 m (side_of e h is)
      (ap (λ ms. slice_get ms 0) front.all ∙ get_first h.untaken front.rest 0 m (ap (λ ms. slice_get ms 0) head)))

  -- its act by the rules of its own play is its act by the rules of the file
  own_act : act_of n ≡ acts (play_of_file file) p (node_at n)
  own_act =
      let ps = file.protocols in
      if_so (has_room (node_at n).main (wants_of n)) _ (room_for (node_at n).main few (wants_of n))
      ∙ ap (λ play. acts play n.party (node_at n)) (own_play ∙ plays_file ps (length file.connects) (length file.parties))
      ∙ acts_known (play_for (length file.parties) ps) (names_known (length file.connects) (length file.parties)) (node_at n) n.party heads
      ∙ ap (λ (q : ℕ). acts (play_for (length file.parties) ps) q (node_at n)) seat.party

  -- the causes are those of the file's play
  same_halt : halt_of (seated_play file) (by_file (node_at n)) ≡ halt_of (play_of_file file) (node_at n)
  same_halt = by ((play_of_file file).wants (node_at n).program)
    where
      by : (want : Rattle.sj_rules.specs.Node.Want Place) → halt_if (is_at_end want) Rattle.sj_rules.specs.Halts.at_end (halt_if ((play_of_file file).is_worn (node_at n).program) Rattle.sj_rules.specs.Halts.worn (halt_by (by_file (node_at n)) want))
          ≡ halt_if (is_at_end want) Rattle.sj_rules.specs.Halts.at_end (halt_if ((play_of_file file).is_worn (node_at n).program) Rattle.sj_rules.specs.Halts.worn (halt_by (node_at n) want))
      by Rattle.sj_rules.specs.Node.ended = refl
      by Rattle.sj_rules.specs.Node.local = refl
      by (Rattle.sj_rules.specs.Node.sends e m) = refl
      by (Rattle.sj_rules.specs.Node.delegates d e) = refl
      by (Rattle.sj_rules.specs.Node.takes e place) = refl
      by (Rattle.sj_rules.specs.Node.closes e) = refl
      by (Rattle.sj_rules.specs.Node.requests place to) = refl
      by (Rattle.sj_rules.specs.Node.accepts place from) = refl

  no_act : (o : Option (Worked Place (NodeAt Place Program))) → act_of n ≡ o → acts (play_of_file file) p (node_at n) ≡ o
  no_act o is = sym own_act ∙ is

  -- where nothing stops it, an act of it is never unfit
  pub never_unfit : node_halt n ≡ None → act_of n ≡ None → ⊥
  never_unfit free none =
      let halt : halt_of (seated_play file) (core.nodes p) ≡ None =
      ap (halt_of (seated_play file)) core_here ∙ same_halt ∙ unhalted file (place_in n.table) (spot_node n) free in
      let done = run_acts_unless file callers led.accepted.accepted turns core run p halt in
      let lift : acts (seated_play file) p (core.nodes p) ≡ option_map work_by_file (acts (play_of_file file) p (node_at n)) =
      ap (acts (seated_play file) p) core_here ∙ Rattle.sj_seats.proofs.LiftLemmas.acts_lift file p (node_at n) in
      let e : Some done.0 ≡ None = sym done.1 ∙ lift ∙ ap (option_map work_by_file) (no_act None none) in
      cc e

-- a node that answers unfit
module _ (c : PlayedWorld) (past : List LineAt) (led : IsLedBy c past) (p : ℕ) (n : Node) (there : slice_get (nodes_in c) p ≡ Some n) (own : is_seat (chairs_in c) p ≡ false)
    (h : Halt) (ended : node_halt n ≡ Some halts.Ended → h ≡ halts.Ended) (limit : node_halt n ≡ Some halts.AtLimit → h ≡ halts.AtLimit) (waits : node_halt n ≡ Some halts.Waits → h ≡ halts.Waits) where
  unfit_by : (o : Option Halt) → node_halt n ≡ o → act_of n ≡ None → h ≡ halts.Unfit → ⊥
  unfit_by None free none is = never_unfit c past led p n there own free none
  unfit_by (Some halts.Ended) stop none is = absurd (let e : halts.Ended ≡ halts.Unfit = sym (ended stop) ∙ is in cc e)
  unfit_by (Some halts.AtLimit) stop none is = absurd (let e : halts.AtLimit ≡ halts.Unfit = sym (limit stop) ∙ is in cc e)
  unfit_by (Some halts.Waits) stop none is = absurd (let e : halts.Waits ≡ halts.Unfit = sym (waits stop) ∙ is in cc e)
  unfit_by (Some halts.NoMemory) stop none is = absurd (stops_so n halts.NoMemory stop)
  unfit_by (Some halts.Unfit) stop none is = absurd (stops_so n halts.Unfit stop)

  pub not_unfit : (h ≡ halts.Unfit → act_of n ≡ None) → h ≡ halts.Unfit → ⊥
  not_unfit none is = unfit_by (node_halt n) refl (none is) is
