-- Worlds of nodes that go on, or stay as they are.
use Rattle.std.proofs.Common.{◌≡◌, ℕ, max, List, [], ◌∷◌, ◌++◌, map, length, Option, Some, None, option_map, option_and_then, ap, sym, ◌∙◌, subst}
use Rattle.sj_lang.specs.FileAt.{FileAt}
use Rattle.sj_end.specs.declared.note.Entry.{Entry}
use Rattle.sj_end.specs.declared.note.Event.{Event}
use Rattle.sj_end.specs.declared.note.Line.{Line}
use Rattle.std.proofs.lemmas.List.{map-append}
use Rattle.sj_rules.specs.History.{IsHistory, due, event_note, line_after}
use Rattle.sj_rules.specs.Log.{LineAt, NoteAt}
use Rattle.sj_rules.specs.Party.{play_of}
use Rattle.sj_rules.specs.Start.{core_start}
use Rattle.sj_rules.specs.World as world
use Rattle.sj_rules.specs.World.{happens}
use Rattle.sj_node.specs.declared.node.Node.{Node}
use Rattle.sj_core.specs.declared.node_world.NodeWorld.{NodeWorld}
use Rattle.sj_core.specs.NodeWorld.{IsLed, IsOfAccepted, IsReached, StaysIn, Steps, file_in, history_in, nodes_in, world_in}
use Rattle.sj_core.specs.Nodes.{AreSeated, Moves, NodesStay, world_by}
use Rattle.sj_core.specs.Views.{event_at, line_at, line_with}
use Rattle.sj_core.proofs.NodesLemmas.{some_same}
use Rattle.sj_core.proofs.HistoryLemmas.{log_more}

-- where the history leads, lines lead
abbrev pub led : (c : NodeWorld) → IsReached c → IsLed c
led c reached = record { accepted = reached.accepted; past = history_in c; run = reached.run; seats = reached.seats }

-- that history leads to those nodes
record Lead (nodes : List Node) (lines : List LineAt) (file : FileAt) : Type 0 where
  run : IsHistory max file lines (world_by file nodes)
  seats : AreSeated file nodes
  accepted : IsOfAccepted file

reached_by : (d : NodeWorld) (file : FileAt) → file_in d ≡ file → Lead (nodes_in d) (history_in d) file → IsReached d
reached_by d file is lead = let l = subst (Lead (nodes_in d) (history_in d)) (sym is) lead in record { run = l.run; seats = l.seats; accepted = l.accepted }

line_event : (p : ℕ) (event : world.Event) (clock : ℕ) (o : Option NoteAt) (l : LineAt) → option_map (λ (t : NoteAt). record { party = p; entry = record { clock = clock; event = event; note = t } }) o ≡ Some l → l.entry.event ≡ event
line_event p event clock None l h = absurd (cc h)
line_event p event clock (Some t) l h =
    let x : LineAt = record { party = p; entry = record { clock = clock; event = event; note = t } } in
    ap (λ (y : LineAt). y.entry.event) (sym (some_same x l h))

-- the line that is due is of its event
due_is : (file : FileAt) (c d : NodeWorld) (p : ℕ) (event : Event) (e : Entry) → Moves file (nodes_in c) p event e (nodes_in d) → event_at e.event ≡ event_at event
due_is file c d p event e moves =
    let play = play_of file in
    line_event p (event_at event) ((world_by file (nodes_in d)).nodes p).clock (event_note play (world_by file (nodes_in c)) p (event_at event)) (line_with p e)
    (sym (ap (option_and_then (line_after play (world_by file (nodes_in c)) p (event_at event))) moves.step) ∙ moves.line)

-- a step, noted
pub stepped : (c d : NodeWorld) (p : ℕ) (event : Event) (e : Entry) → Moves (file_in c) (nodes_in c) p event e (nodes_in d) → history_in d ≡ history_in c ++ line_with p e ∷ [] → file_in d ≡ file_in c → Steps c (line_with p e) d
stepped c d p event e moves listed file =
    let same = due_is (file_in c) c d p event e moves in
    record {
      step = (λ i. happens (play_of (file_in c)) max (world_in c) p (same i)) ∙ moves.step ∙ (λ i. Some (world_by (sym file i) (nodes_in d)));
      due_line = (λ i. due (play_of (file_in c)) max (world_in c) p (same i)) ∙ moves.line;
      listed = listed;
      file = file;
    }

pub reached_on : (c d : NodeWorld) (p : ℕ) (event : Event) (e : Entry) → IsReached c → Moves (file_in c) (nodes_in c) p event e (nodes_in d) → history_in d ≡ history_in c ++ line_with p e ∷ [] → file_in d ≡ file_in c → IsReached d
reached_on c d p event e reached moves listed file =
    let play = play_of (file_in c) in
    let same = due_is (file_in c) c d p event e moves in
    let run = log_more play max (core_start (file_in c)) (world_in c) (world_by (file_in c) (nodes_in d)) (history_in c) (line_with p e) reached.run
    ((λ i. happens play max (world_in c) p (same i)) ∙ moves.step) ((λ i. due play max (world_in c) p (same i)) ∙ moves.line) in
    reached_by d (file_in c) file (record { run = subst (λ (ls : List LineAt). IsHistory max (file_in c) ls (world_by (file_in c) (nodes_in d))) (sym listed) run; seats = moves.seats; accepted = reached.accepted })

pub stayed : (c d : NodeWorld) → NodesStay (file_in c) (nodes_in c) (nodes_in d) → history_in d ≡ history_in c → file_in d ≡ file_in c → StaysIn c d
stayed c d rests history file = record { world = (λ i. world_by (file i) (nodes_in d)) ∙ rests.world; history = history; file = file }

pub reached_still : (c d : NodeWorld) → IsReached c → NodesStay (file_in c) (nodes_in c) (nodes_in d) → history_in d ≡ history_in c → file_in d ≡ file_in c → IsReached d
reached_still c d reached rests history file =
    reached_by d (file_in c) file
    (record {
      run = subst (λ (ls : List LineAt). IsHistory max (file_in c) ls (world_by (file_in c) (nodes_in d))) (sym history) (subst (λ w. IsHistory max (file_in c) (history_in c) w) (sym rests.world) reached.run);
      seats = rests.seats;
      accepted = reached.accepted;
    })

-- the parties are as many as before
pub as_many : (c d : NodeWorld) → IsReached c → IsReached d → file_in d ≡ file_in c → length (nodes_in d) ≡ length (nodes_in c)
as_many c d old new file = new.seats.count ∙ ap (λ f. length f.parties) file ∙ sym old.seats.count

-- one line more in memory is one line more
pub listed_more : (old new : List Line) (l : Line) → new ≡ old ++ l ∷ [] → map line_at new ≡ map line_at old ++ line_at l ∷ []
listed_more old new l is = ap (map line_at) is ∙ map-append line_at old (l ∷ [])
