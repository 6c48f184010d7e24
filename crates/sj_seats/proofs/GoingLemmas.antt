-- Worlds with seats that go on by a delivery or by the act of a party of the file, or stay.
use Rattle.std.proofs.Common.{◌≡◌, ℕ, max, false, List, [], ◌∷◌, ◌++◌, length, Option, Some, None, option_map, option_and_then, refl, ap, sym, ◌∙◌, subst}
use Rattle.sj_core.proofs.HistoryLemmas.{log_more}
use Rattle.sj_core.specs.NodeWorld.{IsOfAccepted}
use Rattle.sj_core.specs.Nodes.{AreSeated, Moves, NodesStay, world_by}
use Rattle.sj_core.specs.Views.{event_at, line_with}
use Rattle.sj_end.specs.declared.note.Entry.{Entry}
use Rattle.sj_end.specs.declared.note.Event.{Event}
use Rattle.sj_end.specs.declared.note.Event.TheVariants as events
use Rattle.sj_lang.specs.FileAt.{FileAt}
use Rattle.sj_lang.specs.Place.{Place}
use Rattle.sj_node.specs.declared.node.Node.{Node}
use Rattle.sj_rules.specs.History.{IsLog, due, event_note, line_after}
use Rattle.sj_rules.specs.Log.{LineAt, NoteAt}
use Rattle.sj_rules.specs.Node.{Play}
use Rattle.sj_rules.specs.Party.{play_of}
use Rattle.sj_rules.specs.World as world
use Rattle.sj_rules.specs.World.{Act, Deliver, WorldAt, happens}
use Rattle.sj_seat.specs.Places.{CarriesPlaces}
use Rattle.sj_seat_laws.specs.Calls.{Call, SeatedAt}
use Rattle.sj_seat_laws.specs.SeatedPlay.{Player, seated_play}
use Rattle.sj_seat_laws.specs.SeatsStart.{Callers, seats_core}
use Rattle.sj_seat_told_laws.specs.SeatsHistory.{IsSeatsHistory}
use Rattle.sj_semantics.specs.Program.{Program}
use Rattle.sj_table.specs.declared.table.Table.{Table}
use Rattle.sj_seats.specs.Calls.{callers_by, first_calls, then_calls}
use Rattle.sj_seats.specs.Core.{AreOver, chair_of, core_by, is_seat, played, seats_by}
use Rattle.sj_seats.specs.Played.{HasParties, IsDueFor, IsLed, IsLedBy, IsReached, Keeps, Redoes, Rests, callers_in, chairs_in, core_in, file_in, history_in, nodes_in, opened_in}
use Rattle.sj_seats.specs.declared.played.Chair.{Chair}
use Rattle.sj_seats.specs.declared.played.PlayedWorld.{PlayedWorld}
use Rattle.sj_seats.proofs.ChairLemmas.{no_seat, none_by_file, none_delivered, seats_calling}
use Rattle.sj_seats.proofs.PlayedLemmas.{act_noted, act_played, delivery_played, due_played}
use Rattle.sj_seats.proofs.ToldLemmas.{then_more}

-- the line that is due is of its event
pub due_event : {P Q : Type 0} (play : Play P Q) (pick : ℕ → ℕ → ℕ) (w : WorldAt P Q) (p : ℕ) (event : world.Event) (l : LineAt) → due play pick w p event ≡ Some l → l.entry.event ≡ event
due_event {P} {Q} play pick w p event l h = by (happens play pick w p event) h
  where
    noted : (v : WorldAt P Q) (o : Option NoteAt) → option_map (λ (t : NoteAt). record { party = p; entry = record { clock = (v.nodes p).clock; event = event; note = t } }) o ≡ Some l → l.entry.event ≡ event
    noted v None k = absurd (cc k)
    noted v (Some t) k =
        let it : record { party = p; entry = record { clock = (v.nodes p).clock; event = event; note = t } } ≡ l = cc k in
        ap (λ (x : LineAt). x.entry.event) (sym it)

    by : (o : Option (WorldAt P Q)) → option_and_then (line_after play w p event) o ≡ Some l → l.entry.event ≡ event
    by None k = absurd (cc k)
    by (Some v) k = noted v (event_note play w p event) k

-- only the nodes are others
pub record Beside (c d : PlayedWorld) : Type 0 where
  pub file : file_in d ≡ file_in c
  pub table : d.table ≡ c.table
  pub chairs : chairs_in d ≡ chairs_in c
  pub opened : opened_in d ≡ opened_in c

module _ (c d : PlayedWorld) (beside : Beside c d) where
  pub core_is : (rest : ℕ → List Call) → core_by (file_in c) c.table (nodes_in d) (chairs_in c) rest ≡ core_in d rest
  core_is rest = λ i. core_by (sym beside.file i) (sym beside.table i) (nodes_in d) (sym beside.chairs i) rest

  module _ (old : HasParties c) (seats : AreSeated (file_in c) (nodes_in d)) (over : AreOver c.table (nodes_in d)) where
    pub has_parties : HasParties d
    has_parties = record {
      seats = subst (λ (f : FileAt). AreSeated f (nodes_in d)) (sym beside.file) seats;
      over = subst (λ (t : Table). AreOver t (nodes_in d)) (sym beside.table) over;
      carries = subst CarriesPlaces (sym beside.table) old.carries;
      count = ap length beside.chairs ∙ old.count ∙ old.seats.count ∙ sym seats.count;
    }

    pub keeps : Keeps c d
    keeps = record {
      file = beside.file;
      table = beside.table;
      opened = beside.opened;
      seats = λ q. ap (λ (cs : List (Option Chair)). is_seat cs q) beside.chairs;
      count = seats.count ∙ sym old.seats.count;
    }

  -- nothing has changed
  pub rests_by : HasParties c → NodesStay (file_in c) (nodes_in c) (nodes_in d) → AreOver c.table (nodes_in d) → Rests c d
  rests_by old stay over = record {
    world = λ rest. sym (core_is rest) ∙ ap (played (seats_by c.table (chairs_in c) rest)) stay.world;
    parties = has_parties old stay.seats over;
    keeps = keeps old stay.seats over;
  }

  -- an event whose lift is known
  module _ (p : ℕ) (event : Event) (e : Entry) (moves : Moves (file_in c) (nodes_in c) p event e (nodes_in d)) (old : HasParties c) (over : AreOver c.table (nodes_in d)) where
    abbrev w : WorldAt Place Program
    w = world_by (file_in c) (nodes_in c)

    abbrev line : LineAt
    line = line_with p e

    abbrev who : (ℕ → List Call) → ℕ → Option SeatedAt
    who rest = seats_by c.table (chairs_in c) rest

    event_is : line.entry.event ≡ event_at event
    event_is = due_event (play_of (file_in c)) max w p (event_at event) line moves.line

    by_lift : ((rest : ℕ → List Call) (q : ℕ) → who (first_calls (opened_in c) line rest) q ≡ who rest q)
        → ((rest : ℕ → List Call) → happens (seated_play (file_in c)) max (played (who rest) w) p (event_at event) ≡ option_map (played (who rest)) (happens (play_of (file_in c)) max w p (event_at event)))
        → ((rest : ℕ → List Call) → event_note (seated_play (file_in c)) (played (who rest) w) p (event_at event) ≡ event_note (play_of (file_in c)) w p (event_at event))
        → Redoes c line d
    by_lift same lift note = record {
      step = λ rest.
          (λ i. happens (seated_play (file_in c)) max (played (λ q. same rest q i) w) p (event_is i))
          ∙ lift rest ∙ ap (option_map (played (who rest))) moves.step ∙ ap Some (core_is rest);
      due_line = λ rest.
          (λ i. due (seated_play (file_in c)) max (played (λ q. same rest q i) w) p (event_is i))
          ∙ due_played (file_in c) (who rest) w p (event_at event) (world_by (file_in c) (nodes_in d)) line moves.step (lift rest) (note rest) moves.line;
      parties = has_parties old moves.seats over;
      keeps = keeps old moves.seats over;
    }

-- a delivery
pub delivery_redoes : (c d : PlayedWorld) → Beside c d → (p q : ℕ) (e : Entry) → Moves (file_in c) (nodes_in c) p (events.Deliver q) e (nodes_in d) → HasParties c → AreOver c.table (nodes_in d) → Redoes c (line_with p e) d
delivery_redoes c d beside p q e moves old over =
    let w = world_by (file_in c) (nodes_in c) in
    let is = due_event (play_of (file_in c)) max w p (Deliver q) (line_with p e) moves.line in
    by_lift c d beside p (events.Deliver q) e moves old over
    (λ rest r. seats_calling c.table (chairs_in c) (first_calls (opened_in c) (line_with p e) rest) rest (none_delivered (opened_in c) (line_with p e) rest q is) r)
    (λ rest. delivery_played (file_in c) (seats_by c.table (chairs_in c) rest) w p q)
    (λ rest. refl)

-- the line of an event is of that event
pub moved_event : (file : FileAt) (old : List Node) (p : ℕ) (event : Event) (e : Entry) (new : List Node) → Moves file old p event e new → (line_with p e).entry.event ≡ event_at event
moved_event file old p event e new moves = due_event (play_of file) max (world_by file old) p (event_at event) (line_with p e) moves.line

-- the act of a party that goes by the file
pub act_redoes : (c d : PlayedWorld) → Beside c d → (p : ℕ) (e : Entry) → is_seat (chairs_in c) p ≡ false → Moves (file_in c) (nodes_in c) p events.Act e (nodes_in d) → HasParties c → AreOver c.table (nodes_in d) → Redoes c (line_with p e) d
act_redoes c d beside p e own moves old over =
    let w = world_by (file_in c) (nodes_in c) in
    let none = no_seat (chairs_in c) p own in
    let nobody : (rest : ℕ → List Call) → seats_by c.table (chairs_in c) rest p ≡ None = λ rest. ap (option_map (Rattle.sj_seats.specs.Core.seat_by c.table (rest p))) none in
    by_lift c d beside p events.Act e moves old over
    (λ rest. none_by_file (opened_in c) c.table (chairs_in c) (line_with p e) rest none)
    (λ rest. act_played (file_in c) (seats_by c.table (chairs_in c) rest) w p (nobody rest))
    (λ rest. act_noted (file_in c) (seats_by c.table (chairs_in c) rest) w p (nobody rest))

-- ---- what was made is due for each event that is asked for so

module _ (c : PlayedWorld) (d : PlayedWorld) (made asked : LineAt) (redone : Redoes c made d) (whose : asked.party ≡ made.party) where
  due_alike : (event : world.Event) → made.entry.event ≡ event → asked.entry.event ≡ event
      → ((rest : ℕ → List Call) (q : ℕ) → seats_by c.table (chairs_in c) (first_calls (opened_in c) asked rest) q ≡ seats_by c.table (chairs_in c) (first_calls (opened_in c) made rest) q) → IsDueFor c asked made
  due_alike event is was same rest =
      (λ i. due (seated_play (file_in c)) max (played (λ q. same rest q i) (world_by (file_in c) (nodes_in c))) (whose i) ((was ∙ sym is) i)) ∙ redone.due_line rest

  -- of a delivery
  pub delivery_finds : (from : ℕ) → made.entry.event ≡ Deliver from → asked.entry.event ≡ Deliver from → IsDueFor c asked made
  delivery_finds from is was =
      due_alike (Deliver from) is was
      (λ rest q. seats_calling c.table (chairs_in c) (first_calls (opened_in c) asked rest) (first_calls (opened_in c) made rest)
      (λ r. none_delivered (opened_in c) asked rest from was r ∙ sym (none_delivered (opened_in c) made rest from is r)) q)

  -- of an act of a party that goes by the file
  pub act_finds : is_seat (chairs_in c) asked.party ≡ false → made.entry.event ≡ Act → asked.entry.event ≡ Act → IsDueFor c asked made
  act_finds own is was =
      let none : chair_of (chairs_in c) asked.party ≡ None = no_seat (chairs_in c) asked.party own in
      let none_made : chair_of (chairs_in c) made.party ≡ None = ap (chair_of (chairs_in c)) (sym whose) ∙ none in
      due_alike Act is was (λ rest q. none_by_file (opened_in c) c.table (chairs_in c) asked rest none q ∙ sym (none_by_file (opened_in c) c.table (chairs_in c) made rest none_made q))

-- ---- what leads on

-- one line more
pub led_on : (c d : PlayedWorld) (past : List LineAt) (l : LineAt) → IsLedBy c past → Redoes c l d → IsLedBy d (past ++ l ∷ [])
led_on c d past l led redone = record {
  accepted = subst IsOfAccepted (sym redone.keeps.file) led.accepted;
  parties = redone.parties;
  run = λ rest.
      let more : IsLog (seated_play (file_in c)) max (seats_core (file_in c) (callers_in c past (first_calls (opened_in c) l rest))) (past ++ l ∷ []) (core_in d rest) =
      log_more (seated_play (file_in c)) max (seats_core (file_in c) (callers_in c past (first_calls (opened_in c) l rest))) (core_in c (first_calls (opened_in c) l rest)) (core_in d rest) past l
      (led.run (first_calls (opened_in c) l rest)) (redone.step rest) (redone.due_line rest) in
      let calls : callers_in c past (first_calls (opened_in c) l rest) ≡ callers_in d (past ++ l ∷ []) rest =
      (λ i q. callers_by (is_seat (chairs_in c)) (λ r. then_more (opened_in c) past l rest r i) q)
      ∙ (λ i q. callers_by (λ r. sym (redone.keeps.seats r) i) (then_calls (sym redone.keeps.opened i) (past ++ l ∷ []) rest) q) in
      subst (λ (f : FileAt). IsSeatsHistory max f (callers_in d (past ++ l ∷ []) rest) (past ++ l ∷ []) (core_in d rest)) (sym redone.keeps.file)
      (subst (λ (cs : Callers). IsSeatsHistory max (file_in c) cs (past ++ l ∷ []) (core_in d rest)) calls more);
}

-- nothing has changed
pub led_still : (c d : PlayedWorld) (past : List LineAt) → IsLedBy c past → Rests c d → IsLedBy d past
led_still c d past led rests = record {
  accepted = subst IsOfAccepted (sym rests.keeps.file) led.accepted;
  parties = rests.parties;
  run = λ rest.
      let calls : callers_in c past rest ≡ callers_in d past rest = λ i q. callers_by (λ r. sym (rests.keeps.seats r) i) (then_calls (sym rests.keeps.opened i) past rest) q in
      subst (λ (f : FileAt). IsSeatsHistory max f (callers_in d past rest) past (core_in d rest)) (sym rests.keeps.file)
      (subst (λ (cs : Callers). IsSeatsHistory max (file_in c) cs past (core_in d rest)) calls
      (subst (λ (w : WorldAt Place Player). IsSeatsHistory max (file_in c) (callers_in c past rest) past w) (sym (rests.world rest)) (led.run rest)));
}

-- where the history leads, lines lead
abbrev pub led : (c : PlayedWorld) → IsReached c → IsLed c
led c reached = record { past = history_in c; led = reached }
