-- A party's own step is a step of each world that has the party's node, and in whose lane its frame
-- is next.
use Rattle.std.proofs.Common.{◌≡◌, ℕ, List, ◌∷◌, refl, sym, ap, ◌∙◌}
use Rattle.std.specs.Prelude.{Some}
use Rattle.std.proofs.lemmas.Bool.{eq-eqb}
use Rattle.sj_rules.specs.Rows.{Worked}
use Rattle.sj_rules.specs.Node.{Play, NodeAt, arrives}
use Rattle.sj_rules.specs.Frames.{FrameAt}
use Rattle.sj_rules.specs.World.{WorldAt, happens, after_event, with_lane}
use Rattle.sj_rules.specs.History.{event_note, due}
use Rattle.sj_rules.specs.Posts.{event_done, posts_of}
use Rattle.sj_rules.specs.NodeRun.{Deed, Acted, Came, StepAt, Steps, event_of, clock_after, deed_done, deed_note, frame_told}
use Rattle.sj_joined_lemmas.proofs.ToldLemmas.{same_note}
use Rattle.sj_joined_lemmas.proofs.LimitLemmas.{same_arrives}

-- the lanes without the frame of that deed, which was the next one
pub data Fed {P : Type 0} (blank : P) (p : ℕ) (lanes : ℕ → ℕ → List (FrameAt P)) : Deed P → (ℕ → ℕ → List (FrameAt P)) → Type 0 where
  by_itself : Fed blank p lanes Acted lanes
  by_frame : (q : ℕ) (f g : FrameAt P) (rest : List (FrameAt P)) → lanes q p ≡ g ∷ rest → frame_told blank g ≡ frame_told blank f →
      Fed blank p lanes (Came q f) (with_lane q p rest lanes)

module _ {P Q : Type 0} (play : Play P Q) (pick : ℕ → ℕ → ℕ) (blank : P) (w : WorldAt P Q) (p : ℕ) where
  -- the deed happens in the world
  deed_happens : (d : Deed P) (lanes : ℕ → ℕ → List (FrameAt P)) (done : Worked P (NodeAt P Q)) (clock : ℕ) → Fed blank p w.lanes d lanes →
      deed_done play pick p (w.nodes p) d ≡ Some done → clock ≡ clock_after (w.nodes p) d →
      happens play pick w p (event_of d) ≡ Some (after_event w p clock lanes done)
  deed_happens d lanes done clock by_itself row is = rw (row, is)
  deed_happens d lanes done clock (by_frame q f g rest front same) row is =
      let times : g.clock ≡ f.clock = ap (λ (h : FrameAt P). h.clock) same in
      let done_here : arrives play.blank play.parties pick (w.nodes p) q g ≡ Some done = same_arrives play.blank play.parties pick blank (w.nodes p) q g f same ∙ row in
      rw (front, done_here, is, times)

  -- the rules do what the deed did
  deed_is_done : (d : Deed P) (lanes : ℕ → ℕ → List (FrameAt P)) (done : Worked P (NodeAt P Q)) → Fed blank p w.lanes d lanes →
      deed_done play pick p (w.nodes p) d ≡ Some done → event_done play pick w p (event_of d) ≡ Some done
  deed_is_done d lanes done by_itself row = row
  deed_is_done d lanes done (by_frame q f g rest front same) row =
      rw front (same_arrives play.blank play.parties pick blank (w.nodes p) q g f same ∙ row)

  -- its note is that of the deed
  deed_noted : (d : Deed P) (lanes : ℕ → ℕ → List (FrameAt P)) → Fed blank p w.lanes d lanes →
      event_note play w p (event_of d) ≡ deed_note play p (w.nodes p) d
  deed_noted d lanes by_itself = refl
  deed_noted d lanes (by_frame q f g rest front same) =
      rw front (ap Some (same_note blank g.body f.body (ap (λ (h : FrameAt P). h.body) same)))

  module _ (s : StepAt P) (next : NodeAt P Q) (lanes : ℕ → ℕ → List (FrameAt P)) (st : Steps play pick p (w.nodes p) s next) (fed : Fed blank p w.lanes s.deed lanes) where
    abbrev pub stepped : WorldAt P Q
    stepped = after_event w p s.entry.clock lanes st.done

    -- the step happens in the world
    pub step_happens : happens play pick w p s.entry.event ≡ Some stepped
    step_happens = rw st.event (deed_happens s.deed lanes st.done s.entry.clock fed st.row st.clock)

    -- its entry is the one that is due
    pub step_due : due play pick w p s.entry.event ≡ Some (record { party = p; entry = s.entry })
    step_due =
        let note : event_note play w p s.entry.event ≡ Some s.entry.note = rw st.event (deed_noted s.deed lanes fed ∙ st.note) in
        rw (step_happens, note, eq-eqb p p refl)

    -- what it posts is what the rules post there
    pub step_posts : posts_of (event_done play pick w p s.entry.event) ≡ s.posts
    step_posts =
        let done : event_done play pick w p s.entry.event ≡ Some st.done = rw st.event (deed_is_done s.deed lanes st.done fed st.row) in
        ap posts_of done ∙ sym st.posts
