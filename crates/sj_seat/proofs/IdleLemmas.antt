-- What a node does that has nothing to do of its own is what it does with code of a builder that makes no call meanwhile.
use Rattle.std.proofs.Common.{◌≡◌, ◌∙◌, ℕ, max, if◌then◌else◌, Bool, true, false, List, [], ◌∷◌, length, map, Option, Some, None, option_map, refl, ap, sym}
use Rattle.sj_lang.specs.FileAt.{FileAt}
use Rattle.sj_lang.specs.Place.{Place, done}
use Rattle.sj_rules.specs.Frames.{FrameAt}
use Rattle.sj_rules.specs.Node as wanted
use Rattle.sj_rules.specs.Node.{NodeAt, Play, act_by, acts, arrives}
use Rattle.sj_rules.specs.Log.{NoteAt}
use Rattle.sj_rules.specs.NodeRun.{Acted, Came, Deed, NodeRun, StepAt, Steps, clock_after, deed_done, deed_note, event_of}
use Rattle.sj_rules.specs.Rows.{Worked}
use Rattle.sj_rules.specs.World.{Event}
use Rattle.sj_rules.specs.Work.{LanedAt, LaneWork, LostAt}
use Rattle.sj_seat_laws.specs.Calls.{SeatedAt}
use Rattle.sj_seat_laws.specs.SeatedPlay.{Player, seated, seated_play}
use Rattle.sj_seat_laws.specs.SeatRows.{with_player, worked_player}
use Rattle.sj_seat_laws.proofs.PlayedLemmas.{arrives_played}
use Rattle.sj_seat.specs.Logged.{last_act, later_of, note_if_act}
use Rattle.sj_seat.proofs.LastLemmas.{last_later}

no_row : {X : Type 0} (x : X) → ◌≡◌ {A = Option X} None (Some x) → ⊥
no_row x h = absurd (cc h)

the_row : {X : Type 0} (x y : X) → Some x ≡ Some y → x ≡ y
the_row x y h = cc

module _ {Q : Type 0} (play : Play Place Q) (party : ℕ) (g : Q) (ended : play.wants g ≡ wanted.ended) where
  none_by : (b : Bool) (o : Option (Worked Place (NodeAt Place Q))) → o ≡ None → (if b then None else o) ≡ None
  none_by true o h = refl
  none_by false o h = h

  -- it doesn't act
  no_act : (n : NodeAt Place Q) → n.program ≡ g → acts play party n ≡ None
  no_act n is = none_by (play.is_worn n.program) (act_by play party n (play.wants n.program)) (ap (act_by play party n) (ap play.wants is ∙ ended))

  -- a frame that came leaves its program as it was
  came_stays : (old mid : NodeAt Place Q) (st : StepAt Place) (from : ℕ) (f : FrameAt Place) → st.deed ≡ Came from f → Steps play max party old st mid → mid.program ≡ old.program
  came_stays old mid st from f is x =
      let row : arrives play.blank play.parties max old from f ≡ Some x.done = ap (deed_done play max party old) (sym is) ∙ x.row in
      let kept : x.done ≡ worked_player old.program x.done =
      the_row x.done (worked_player old.program x.done) (sym row ∙ arrives_played old.program max old from play.blank play.parties f ∙ ap (option_map (worked_player old.program)) row) in
      ap (λ (n : NodeAt Place Q). n.program) x.after ∙ ap (λ (w : Worked Place (NodeAt Place Q)). w.state.program) kept

  step_stays : (old mid : NodeAt Place Q) (st : StepAt Place) → old.program ≡ g → Steps play max party old st mid → mid.program ≡ g
  step_stays old mid st own x = by st.deed refl
    where
      by : (d : Deed Place) → st.deed ≡ d → mid.program ≡ g
      by Acted is = absurd (no_row x.done (sym (no_act old own) ∙ ap (deed_done play max party old) (sym is) ∙ x.row))
      by (Came from f) is = came_stays old mid st from f is x ∙ own

  run_stays : (steps : List (StepAt Place)) (old new : NodeAt Place Q) → old.program ≡ g → NodeRun play max party old steps new → new.program ≡ g
  run_stays [] old new own same = ap (λ (n : NodeAt Place Q). n.program) (sym same) ∙ own
  run_stays (st ∷ ss) old new own (mid, x, later) = run_stays ss mid new (step_stays old mid st own x) later

  -- what it does is no act
  no_act_noted : (e : Event) (d : Deed Place) (note : NoteAt) → e ≡ event_of d → (d ≡ Acted → ⊥) → note_if_act e note ≡ None
  no_act_noted e Acted note is not_acted = absurd (not_acted refl)
  no_act_noted e (Came from f) note is not_acted = ap (λ v. note_if_act v note) is

  no_step_acts : (old mid : NodeAt Place Q) (st : StepAt Place) → old.program ≡ g → Steps play max party old st mid → st.deed ≡ Acted → ⊥
  no_step_acts old mid st own x is = no_row x.done (sym (no_act old own) ∙ ap (deed_done play max party old) (sym is) ∙ x.row)

  no_acts : (steps : List (StepAt Place)) (old new : NodeAt Place Q) → old.program ≡ g → NodeRun play max party old steps new → last_act (map (λ s. s.entry) steps) ≡ None
  no_acts [] old new own same = refl
  no_acts (st ∷ ss) old new own (mid, x, later) =
      let rest : last_act (map (λ s. s.entry) ss) ≡ None = no_acts ss mid new (step_stays old mid st own x) later in
      let one : note_if_act st.entry.event st.entry.note ≡ None = no_act_noted st.entry.event st.deed st.entry.note x.event (no_step_acts old mid st own x) in
      λ i. later_of (rest i) (one i)

  -- its last act stays the last one
  pub acts_stay : {O I : Type 0} (pushed : O → Option (List (FrameAt Place))) (same_out : O → O → Type 0) (popped : I → Option (List (FrameAt Place))) (same_in : I → I → Type 0)
      (old new : LanedAt Place Q O I) (lost : Option (LostAt Place)) → old.node.program ≡ g → LaneWork pushed same_out popped same_in play max done party old new lost → last_act new.log ≡ last_act old.log
  acts_stay pushed same_out popped same_in old new lost own x =
      ap last_act x.log ∙ last_later old.log (map (λ s. s.entry) x.steps) ∙ ap (λ o. later_of o (last_act old.log)) (no_acts x.steps old.node new.node own x.run)

  -- a worker keeps its program
  pub work_stays : {O I : Type 0} (pushed : O → Option (List (FrameAt Place))) (same_out : O → O → Type 0) (popped : I → Option (List (FrameAt Place))) (same_in : I → I → Type 0)
      (old new : LanedAt Place Q O I) (lost : Option (LostAt Place)) → old.node.program ≡ g → LaneWork pushed same_out popped same_in play max done party old new lost → new.node.program ≡ g
  work_stays pushed same_out popped same_in old new lost own x = run_stays x.steps old.node new.node own x.run

  module _ (file : FileAt) (blank : play.blank ≡ done) (parties : play.parties ≡ length file.parties) (s : SeatedAt) where
    abbrev at_seat : NodeAt Place Q → NodeAt Place Player
    at_seat n = with_player (seated s) n

    -- a frame that came, as the rules see it beside the code
    came_seated : (old mid : NodeAt Place Q) (st : StepAt Place) (from : ℕ) (f : FrameAt Place) → st.deed ≡ Came from f → Steps play max party old st mid
        → Steps (seated_play file) max party (at_seat old) st (at_seat mid)
    came_seated old mid st from f is x =
        let row : arrives done (length file.parties) max old from f ≡ Some x.done =
        (λ i. arrives (sym blank i) (sym parties i) max old from f) ∙ ap (deed_done play max party old) (sym is) ∙ x.row in
        record {
          done = worked_player (seated s) x.done;
          row = ap (deed_done (seated_play file) max party (at_seat old)) is ∙ arrives_played (seated s) max old from done (length file.parties) f ∙ ap (option_map (worked_player (seated s))) row;
          posts = x.posts;
          clock = x.clock ∙ ap (clock_after old) is ∙ sym (ap (clock_after (at_seat old)) is);
          event = x.event;
          note = ap (deed_note (seated_play file) party (at_seat old)) is ∙ sym (ap (deed_note play party old) is) ∙ x.note;
          after = ap at_seat x.after;
        }

    step_seated : (old mid : NodeAt Place Q) (st : StepAt Place) → old.program ≡ g → Steps play max party old st mid → Steps (seated_play file) max party (at_seat old) st (at_seat mid)
    step_seated old mid st own x = by st.deed refl
      where
        by : (d : Deed Place) → st.deed ≡ d → Steps (seated_play file) max party (at_seat old) st (at_seat mid)
        by Acted is = absurd (no_row x.done (sym (no_act old own) ∙ ap (deed_done play max party old) (sym is) ∙ x.row))
        by (Came from f) is = came_seated old mid st from f is x

    run_seated : (steps : List (StepAt Place)) (old new : NodeAt Place Q) → old.program ≡ g → NodeRun play max party old steps new → NodeRun (seated_play file) max party (at_seat old) steps (at_seat new)
    run_seated [] old new own same = ap at_seat same
    run_seated (st ∷ ss) old new own (mid, x, later) = (at_seat mid, step_seated old mid st own x, run_seated ss mid new (step_stays old mid st own x) later)

    -- a worker as the rules see it beside the code
    abbrev pub lanes_at_seat : {O I : Type 0} → LanedAt Place Q O I → LanedAt Place Player O I
    lanes_at_seat w = record { node = at_seat w.node; log = w.log; box = w.box; outs = w.outs; ins = w.ins }

    -- what it did without an act
    pub idle_work : {O I : Type 0} (pushed : O → Option (List (FrameAt Place))) (same_out : O → O → Type 0) (popped : I → Option (List (FrameAt Place))) (same_in : I → I → Type 0)
        (old new : LanedAt Place Q O I) (lost : Option (LostAt Place)) → old.node.program ≡ g → LaneWork pushed same_out popped same_in play max done party old new lost
        → LaneWork pushed same_out popped same_in (seated_play file) max done party (lanes_at_seat old) (lanes_at_seat new) lost
    idle_work pushed same_out popped same_in old new lost own x =
        record { steps = x.steps; run = run_seated x.steps old.node new.node own x.run; log = x.log; outs = x.outs; ins = x.ins }
