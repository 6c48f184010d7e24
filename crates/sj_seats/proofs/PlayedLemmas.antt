-- Events of a world in which some parties are played by code, from those of the world of nodes.
use Rattle.std.proofs.Common.{◌≡◌, ◌≢◌, ℕ, ◌+◌, ◌==◌, max, Bool, true, false, if◌then◌else◌, List, [], ◌∷◌, length, Option, Some, None, option_map, option_and_then, refl, ap, sym, ◌∙◌}
use Rattle.std.proofs.lemmas.Bool.{eqb-true}
use Rattle.sj_core.proofs.NodesLemmas.{same_eqb}
use Rattle.sj_lang.specs.FileAt.{FileAt}
use Rattle.sj_lang.specs.Place.{Place, done}
use Rattle.sj_rules.specs.Frames.{FrameAt}
use Rattle.sj_rules.specs.History.{due, event_note, line_after}
use Rattle.sj_rules.specs.Log.{LineAt, NoteAt}
use Rattle.sj_rules.specs.Node.{NodeAt, acts, arrives}
use Rattle.sj_rules.specs.Party.{play_of}
use Rattle.sj_rules.specs.Rows.{Worked}
use Rattle.sj_rules.specs.World.{Act, Deliver, Event, WorldAt, after_event, delivery_of, happens, lanes_with, with_lane}
use Rattle.sj_seat_laws.specs.Calls.{SeatedAt}
use Rattle.sj_seat_laws.specs.SeatedPlay.{Player, seated_play, written}
use Rattle.sj_seat_laws.specs.SeatRows.{with_player, worked_player}
use Rattle.sj_seat_laws.specs.SeatsWorld.{player_by}
use Rattle.sj_seat_laws.proofs.PlayedLemmas.{arrives_played}
use Rattle.sj_semantics.specs.Program.{Program}
use Rattle.sj_seats.specs.Core.{played}
use Rattle.sj_seats.proofs.LiftLemmas.{acts_lift, by_file, note_lift, work_by_file}

some_one : {X : Type 0} (x y : X) → ◌≡◌ {A = Option X} (Some x) (Some y) → x ≡ y
some_one x y h = cc h

-- ---- what an event leaves

module _ (who more : ℕ → Option SeatedAt) (w : WorldAt Place Program) (p clock : ℕ) (ls : ℕ → ℕ → List (FrameAt Place)) (left : Worked Place (NodeAt Place Program)) (g : Player)
    (own : player_by (more p) left.state.program ≡ g) (others : (q : ℕ) → q ≢ p → more q ≡ who q) where
  abbrev own_node : NodeAt Place Program
  own_node = record left.state { clock = clock }

  node_by : (q : ℕ) (b : Bool) → (q == p) ≡ b
      → (if b then record (with_player g left.state) { clock = clock } else with_player (player_by (who q) (w.nodes q).program) (w.nodes q))
      ≡ with_player (player_by (more q) (if b then own_node else w.nodes q).program) (if b then own_node else w.nodes q)
  node_by q true is = ap (λ (h : Player). with_player h own_node) (sym own ∙ ap (λ (r : ℕ). player_by (more r) left.state.program) (sym (eqb-true q p is)))
  node_by q false is = ap (λ (o : Option SeatedAt). with_player (player_by o (w.nodes q).program) (w.nodes q)) (sym (others q (λ same. absurd (let e : true ≡ false = sym (same_eqb p) ∙ ap (λ (r : ℕ). r == p) (sym same) ∙ is in cc e))))

  pub after_played : after_event (played who w) p clock ls (worked_player g left) ≡ played more (after_event w p clock ls left)
  after_played = λ i. record { nodes = λ q. node_by q (q == p) refl i; lanes = lanes_with p clock left.posts ls }

-- ---- deliveries

-- a frame leaves the program as it is
program_stays : (pick : ℕ → ℕ → ℕ) (n : NodeAt Place Program) (origin parties : ℕ) (f : FrameAt Place) (left : Worked Place (NodeAt Place Program)) → arrives done parties pick n origin f ≡ Some left → left.state.program ≡ n.program
program_stays pick n origin parties f left came =
    let both : Some left ≡ Some (worked_player n.program left) = sym came ∙ arrives_played n.program pick n origin done parties f ∙ ap (option_map (worked_player n.program)) came in
    ap (λ (x : Worked Place (NodeAt Place Program)). x.state.program) (some_one left (worked_player n.program left) both)

module _ (file : FileAt) (who : ℕ → Option SeatedAt) (w : WorldAt Place Program) (p : ℕ) where
  abbrev here : Player
  here = player_by (who p) (w.nodes p).program

  came_by : (q clock : ℕ) (ls : ℕ → ℕ → List (FrameAt Place)) (f : FrameAt Place) (o : Option (Worked Place (NodeAt Place Program))) → arrives done (length file.parties) max (w.nodes p) q f ≡ o
      → option_map (after_event (played who w) p clock ls) (option_map (worked_player here) o) ≡ option_map (played who) (option_map (after_event w p clock ls) o)
  came_by q clock ls f None is = refl
  came_by q clock ls f (Some left) is =
      ap Some (after_played who who w p clock ls left here (ap (player_by (who p)) (program_stays max (w.nodes p) q (length file.parties) f left is)) (λ r apart. refl))

  delivery_by : (q : ℕ) (fs : List (FrameAt Place)) → delivery_of (seated_play file) max (played who w) p q fs ≡ option_map (played who) (delivery_of (play_of file) max w p q fs)
  delivery_by q [] = refl
  delivery_by q (f ∷ rest) =
      let clock : ℕ = max (w.nodes p).clock f.clock + 1 in
      let ls = with_lane q p rest w.lanes in
      ap (option_map (after_event (played who w) p clock ls)) (arrives_played here max (w.nodes p) q done (length file.parties) f)
      ∙ came_by q clock ls f (arrives done (length file.parties) max (w.nodes p) q f) refl

  pub delivery_played : (q : ℕ) → happens (seated_play file) max (played who w) p (Deliver q) ≡ option_map (played who) (happens (play_of file) max w p (Deliver q))
  delivery_played q = delivery_by q (w.lanes q p)

  -- ---- acts of a party that goes by the file

  module _ (by_itself : who p ≡ None) where
    pub is_by_file : (played who w).nodes p ≡ by_file (w.nodes p)
    is_by_file = ap (λ (o : Option SeatedAt). with_player (player_by o (w.nodes p).program) (w.nodes p)) by_itself

    pub acts_played : acts (seated_play file) p ((played who w).nodes p) ≡ option_map work_by_file (acts (play_of file) p (w.nodes p))
    acts_played = ap (acts (seated_play file) p) is_by_file ∙ acts_lift file p (w.nodes p)

    acted_by : (o : Option (Worked Place (NodeAt Place Program)))
        → option_map (after_event (played who w) p ((w.nodes p).clock + 1) w.lanes) (option_map work_by_file o) ≡ option_map (played who) (option_map (after_event w p ((w.nodes p).clock + 1) w.lanes) o)
    acted_by None = refl
    acted_by (Some left) =
        ap Some (after_played who who w p ((w.nodes p).clock + 1) w.lanes left (written left.state.program) (ap (λ (o : Option SeatedAt). player_by o left.state.program) by_itself) (λ r apart. refl))

    pub act_played : happens (seated_play file) max (played who w) p Act ≡ option_map (played who) (happens (play_of file) max w p Act)
    act_played = ap (option_map (after_event (played who w) p ((w.nodes p).clock + 1) w.lanes)) acts_played ∙ acted_by (acts (play_of file) p (w.nodes p))

    pub act_noted : event_note (seated_play file) (played who w) p Act ≡ event_note (play_of file) w p Act
    act_noted =
        ap (λ (n : NodeAt Place Player). Rattle.sj_rules.specs.Log.act_note p n ((seated_play file).wants n.program)) is_by_file
        ∙ note_lift file p (written (w.nodes p).program) (w.nodes p) ((play_of file).wants (w.nodes p).program)

  -- ---- the line that is due

  pub due_played : (event : Event) (v : WorldAt Place Program) (l : LineAt) → happens (play_of file) max w p event ≡ Some v → happens (seated_play file) max (played who w) p event ≡ option_map (played who) (happens (play_of file) max w p event)
      → event_note (seated_play file) (played who w) p event ≡ event_note (play_of file) w p event → due (play_of file) max w p event ≡ Some l → due (seated_play file) max (played who w) p event ≡ Some l
  due_played event v l step lift note is =
      ap (option_and_then (line_after (seated_play file) (played who w) p event)) (lift ∙ ap (option_map (played who)) step)
      ∙ ap (option_map (λ (t : NoteAt). record { party = p; entry = record { clock = (v.nodes p).clock; event = event; note = t } })) note
      ∙ sym (ap (option_and_then (line_after (play_of file) w p event)) step) ∙ is
