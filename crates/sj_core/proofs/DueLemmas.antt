-- The line that is due for an event of a world to which lines lead, as its nodes report it.
use Rattle.std.proofs.Common.{◌≡◌, ℕ, ◌+◌, ◌<◌, max, if◌then◌else◌, List, [], ◌∷◌, map, length, slice_get, Option, Some, None, option_map, option_and_then, refl, ap, sym, ◌∙◌, inl, inr}
use Rattle.sj_lang.specs.Place.{Place}
use Rattle.sj_lang.specs.FileAt.{FileAt}
use Rattle.sj_semantics.specs.Program.{Program}
use Rattle.sj_table.specs.declared.table.Spot.{Spot}
use Rattle.sj_table.specs.Spots.{place_in}
use Rattle.sj_end.specs.Views.{note_at}
use Rattle.sj_end.specs.declared.note.Event.{Event}
use Rattle.sj_end.specs.declared.note.Event.TheVariants as events
use Rattle.sj_rules.specs.Frames.{FrameAt}
use Rattle.sj_rules.specs.History.{due, front_note, line_after}
use Rattle.sj_rules.specs.Mapped.{frame_with}
use Rattle.sj_rules.specs.Node.{NodeAt, Play, arrives}
use Rattle.sj_rules.specs.Party.{play_of}
use Rattle.sj_rules.specs.Rows.{Worked}
use Rattle.sj_joined_lemmas.proofs.ReplayLemmas.{step_lined}
use Rattle.sj_rules.specs.World as rules
use Rattle.sj_rules.specs.World.{WorldAt, after_event, delivery_of, happens, with_lane}
use Rattle.sj_node.specs.declared.node.Node.{Node}
use Rattle.sj_node.specs.declared.refusal.Halt.{Halt}
use Rattle.sj_node.specs.Node.{act_note, clock_of, due_if, due_of, note_for, node_halt}
use Rattle.sj_node.specs.Outs.{waiting_in}
use Rattle.sj_node.specs.Play.{next_want}
use Rattle.sj_node.specs.Reading.{outs_of}
use Rattle.sj_core.specs.declared.node_world.NodeWorld.{NodeWorld}
use Rattle.sj_core.specs.NodeWorld.{IsLed, file_in, nodes_in, world_in}
use Rattle.sj_core.specs.Nodes.{box_or}
use Rattle.sj_core.specs.Quiet.{IsAbroad}
use Rattle.sj_core.specs.Views.{event_at, line_with, note_seen}
use Rattle.sj_core.proofs.LawLemmas.{empty_outside, front_fits, idle_outside, low_front}
use Rattle.sj_core.proofs.NodesLemmas.{same_eqb, some_same}
use Rattle.sj_core.proofs.NoteLemmas.{act_noted, body_noted}
use Rattle.sj_core.proofs.StepLemmas.{lined}
use Rattle.sj_core.proofs.StopLemmas.{no_step_where}
use Rattle.sj_core.proofs.UnfitLemmas.{acts_here, here}

-- after an event its party has the event's clock
clock_after : (w : WorldAt Place Program) (p k : ℕ) (ls : ℕ → ℕ → List (FrameAt Place)) (done : Worked Place (NodeAt Place Program)) → ((after_event w p k ls done).nodes p).clock ≡ k
clock_after w p k ls done = ap (λ b. (if b then record done.state { clock = k } else w.nodes p).clock) (same_eqb p)

clock_of_step : (w v : WorldAt Place Program) (p k : ℕ) (ls : ℕ → ℕ → List (FrameAt Place)) (o : Option (Worked Place (NodeAt Place Program))) → option_map (after_event w p k ls) o ≡ Some v → (v.nodes p).clock ≡ k
clock_of_step w v p k ls None h = absurd (cc h)
clock_of_step w v p k ls (Some done) h = ap (λ (x : WorldAt Place Program). (x.nodes p).clock) (sym (some_same (after_event w p k ls done) v h)) ∙ clock_after w p k ls done

module _ (c : NodeWorld) (led : IsLed c) (p : ℕ) (n : Node) (there : slice_get (nodes_in c) p ≡ Some n) where
  abbrev w : WorldAt Place Program
  w = world_in c

  abbrev play : Play Place Program
  play = play_of (file_in c)

  act_by : (o : Option Halt) → node_halt n ≡ o → due play max w p rules.Act ≡ option_map (line_with p) (due_if o (record { clock = clock_of n + 1; event = events.Act; note = note_for n }))
  act_by (Some k) stop = ap (option_and_then (line_after play w p rules.Act)) (no_step_where c led p n there k stop)
  act_by None free =
      let done = acts_here c led p n there free in
      let at = here c led p n there in
      let seat = led.seats.each p n there in
      let step : happens play max w p rules.Act ≡ Some (after_event w p ((w.nodes p).clock + 1) w.lanes done.0) = ap (option_map (after_event w p ((w.nodes p).clock + 1) w.lanes)) done.1 in
      lined (file_in c) w (after_event w p ((w.nodes p).clock + 1) w.lanes done.0) p (clock_of n + 1) rules.Act (note_seen (note_for n)) step
      (act_noted (length (file_in c).parties) (file_in c).protocols p (w.nodes p) done.0 done.1
      ∙ (λ i. Some (note_seen (act_note (sym seat.party i) (at i).main (at i).requests (at i).offers (next_want (at i).program)))))
      (clock_after w p ((w.nodes p).clock + 1) w.lanes done.0 ∙ ap (λ m. m.clock + 1) at)

  -- of its act
  pub act_due : due play max w p rules.Act ≡ option_map (line_with p) (due_of n)
  act_due = act_by (node_halt n) refl

  module _ (q : ℕ) (giver : Node) (origin : slice_get (nodes_in c) q ≡ Some giver) where
    lane : (fs : List (FrameAt Spot)) → waiting_in (outs_of giver) p ≡ fs → w.lanes q p ≡ map (frame_with (place_in giver.table)) fs
    lane fs is = ap (λ o. box_or o p) origin ∙ ap (map (frame_with (place_in giver.table))) is

    -- nothing is due of an empty lane
    pub none_due : waiting_in (outs_of giver) p ≡ [] → due play max w p (rules.Deliver q) ≡ None
    none_due is = ap (λ l. option_and_then (line_after play w p (rules.Deliver q)) (delivery_of play max w p q l)) (lane [] is)

    module _ (f : FrameAt Spot) (rest : List (FrameAt Spot)) (front : waiting_in (outs_of giver) p ≡ f ∷ rest) where
      abbrev seen : FrameAt Place
      seen = frame_with (place_in giver.table) f

      abbrev behind : List (FrameAt Place)
      behind = map (frame_with (place_in giver.table)) rest

      -- of the first frame of a lane
      pub front_due : due play max w p (rules.Deliver q) ≡ option_map (line_with p) (Some (record { clock = max (clock_of n) f.clock + 1; event = events.Deliver q; note = note_at f.body }))
      front_due =
          let at = here c led p n there in
          let fits = front_fits c led p q seen behind (lane (f ∷ rest) front) in
          lined (file_in c) w fits.0 p (max (clock_of n) f.clock + 1) (rules.Deliver q) (note_seen (note_at f.body)) fits.1
          (ap front_note (lane (f ∷ rest) front) ∙ ap Some (body_noted (place_in giver.table) f.body))
          (clock_of_step w fits.0 p (max (w.nodes p).clock f.clock + 1) (with_lane q p behind w.lanes) (arrives play.blank play.parties max (w.nodes p) q seen)
          (sym (ap (delivery_of play max w p q) (lane (f ∷ rest) front)) ∙ fits.1)
          ∙ ap (λ (m : NodeAt Place Program). max m.clock f.clock + 1) at)

-- where no line is due, the event is illegal
none_due_by : (file : FileAt) (v : WorldAt Place Program) (p : ℕ) (event : rules.Event) (o : Option (WorldAt Place Program)) → happens (play_of file) max v p event ≡ o → due (play_of file) max v p event ≡ None → o ≡ None
none_due_by file v p event None is none = refl
none_due_by file v p event (Some u) is none =
    let l = step_lined (play_of file) max v p event u is in
    let e = sym l.1 ∙ none in absurd (cc e)

pub none_due_so : (c : NodeWorld) (p : ℕ) (event : rules.Event) → due (play_of (file_in c)) max (world_in c) p event ≡ None → happens (play_of (file_in c)) max (world_in c) p event ≡ None
none_due_so c p event none = none_due_by (file_in c) (world_in c) p event (happens (play_of (file_in c)) max (world_in c) p event) refl none

-- where the event is illegal, no line is due
pub no_step_due : (c : NodeWorld) (p : ℕ) (event : rules.Event) → happens (play_of (file_in c)) max (world_in c) p event ≡ None → due (play_of (file_in c)) max (world_in c) p event ≡ None
no_step_due c p event none = ap (option_and_then (line_after (play_of (file_in c)) (world_in c) p event)) none

none_at : {A B : Type 0} → (f : A → B) (o : Option A) (x : Option B) → x ≡ option_map f o → x ≡ None → o ≡ None
none_at f None x is none = refl
none_at f (Some a) x is none = let e : Some (f a) ≡ None = sym is ∙ none in absurd (cc e)

-- no line of an event that is abroad
pub abroad_due : (c : NodeWorld) → IsLed c → (p : ℕ) (event : Event) → IsAbroad p event (length (nodes_in c)) → due (play_of (file_in c)) max (world_in c) p (event_at event) ≡ None
abroad_due c led p events.Act out = no_step_due c p rules.Act (ap (option_map (after_event (world_in c) p (((world_in c).nodes p).clock + 1) (world_in c).lanes)) (idle_outside c led p out))
abroad_due c led p (events.Deliver q) out = no_step_due c p (rules.Deliver q) (ap (delivery_of (play_of (file_in c)) max (world_in c) p q) (empty_outside c led q p (elim out [ inl le ↦ inr le | inr le ↦ inl le ])))

-- the clock of a front is below 2^62
pub low_arrival : (c : NodeWorld) → IsLed c → (p q : ℕ) (giver : Node) → slice_get (nodes_in c) q ≡ Some giver → (f : FrameAt Spot) (rest : List (FrameAt Spot)) → waiting_in (outs_of giver) p ≡ f ∷ rest → f.clock < 4611686018427387904
low_arrival c led p q giver origin f rest front =
    low_front c led p q (frame_with (place_in giver.table) f) (map (frame_with (place_in giver.table)) rest)
    (ap (λ o. box_or o p) origin ∙ ap (map (frame_with (place_in giver.table))) front)
