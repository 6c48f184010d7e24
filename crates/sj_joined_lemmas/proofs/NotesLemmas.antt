-- What a party's log says of the frames that came to it, and what it means that a frame or an act
-- is refused.
use Rattle.std.proofs.Common.{◌≡◌, ℕ, ◌+◌, ◌<◌, List, [], ◌∷◌, refl, sym, ap, ◌∙◌, arith}
use Rattle.std.specs.Prelude.{Bool, true, false, ◌==◌, if◌then◌else◌, Option, Some, None, map, option_map, max}
use Rattle.std.specs.List.{cons_option}
use Rattle.sj_rules.specs.Node.{Play, NodeAt, arrives, acts}
use Rattle.sj_rules.specs.Frames.{FrameAt}
use Rattle.sj_rules.specs.World.{WorldAt, Act, Deliver, happens}
use Rattle.sj_rules.specs.Log.{NoteAt, body_note, delivery_note, notes_from}
use Rattle.sj_rules.specs.NodeRun.{Deed, Acted, Came, StepAt, Steps, NodeRun, event_of, clock_after, deed_note, frame_from, popped_from, frame_told, told_frames}
use Rattle.sj_rules.specs.Joined.{Holds}
use Rattle.sj_joined_lemmas.proofs.ToldLemmas.{note_told}
use Rattle.sj_joined_lemmas.proofs.LimitLemmas.{same_arrives}

module _ {P Q : Type 0} (play : Play P Q) (pick : ℕ → ℕ → ℕ) (blank : P) (party : ℕ) where
  -- a deed's entry reports its frame
  deed_noted : (n : NodeAt P Q) (q : ℕ) (d : Deed P) (note : NoteAt) → deed_note play party n d ≡ Some note →
      delivery_note q (event_of d) note ≡ option_map (λ f. body_note f.body) (frame_from blank q d)
  deed_noted n q Acted note e = refl
  deed_noted n q (Came from f) note e = by (q == from)
    where
      by : (b : Bool) → (if b then Some note else None) ≡ option_map (λ f. body_note f.body) (if b then Some (frame_told blank f) else None)
      by true = sym e ∙ ap Some (sym (note_told blank f.body))
      by false = refl

  -- a mapped list with one more
  cons_mapped : {X Y : Type 0} → (f : X → Y) (o : Option X) (xs : List X) → cons_option (option_map f o) (map f xs) ≡ map f (cons_option o xs)
  cons_mapped f None xs = refl
  cons_mapped f (Some x) xs = refl

  -- the entries of frames from q are, in order, the notes of the frames that were popped from q
  pub pops_noted : (q : ℕ) (steps : List (StepAt P)) (n m : NodeAt P Q) → NodeRun play pick party n steps m →
      notes_from q (map (λ s. s.entry) steps) ≡ map (λ f. body_note f.body) (popped_from blank q steps)
  pops_noted q [] n m r = refl
  pops_noted q (s ∷ ss) n m r =
      let rest : notes_from q (map (λ s. s.entry) ss) ≡ map (λ f. body_note f.body) (popped_from blank q ss) = pops_noted q ss r.0 m r.2 in
      let here : delivery_note q s.entry.event s.entry.note ≡ option_map (λ f. body_note f.body) (frame_from blank q s.deed) =
      ap (λ e. delivery_note q e s.entry.note) r.1.event ∙ deed_noted n q s.deed s.entry.note r.1.note in
      ap (λ o. cons_option o (notes_from q (map (λ s. s.entry) ss))) here
      ∙ ap (cons_option (option_map (λ f. body_note f.body) (frame_from blank q s.deed))) rest
      ∙ cons_mapped (λ (f : FrameAt P). body_note f.body) (frame_from blank q s.deed) (popped_from blank q ss)

  -- a delivery's clock is above that of its frame
  pub above_frame : (n m : NodeAt P Q) (s : StepAt P) (from : ℕ) (f : FrameAt P) → Steps play pick party n s m → s.deed ≡ Came from f → f.clock < s.entry.clock
  above_frame n m s from f st is =
      let times : s.entry.clock ≡ max n.clock f.clock + 1 = st.clock ∙ ap (clock_after n) is in
      omega (arith, times)

module _ {P Q : Type 0} (play : Play P Q) (pick : ℕ → ℕ → ℕ) (blank : P) (v : WorldAt P Q) (last : ℕ → NodeAt P Q) (left : ℕ → ℕ → List (FrameAt P)) (holds : Holds blank v last left) where
  -- the first frame of a lane that reports that one first
  front_of : (lane : List (FrameAt P)) (f : FrameAt P) (more : List (FrameAt P)) → told_frames blank lane ≡ frame_told blank f ∷ more →
      (g : FrameAt P) × (rest : List (FrameAt P)) × (lane ≡ g ∷ rest) × (frame_told blank g ≡ frame_told blank f)
  front_of [] f more e = absurd (cc e)
  front_of (g ∷ rest) f more e =
      let same : frame_told blank g ≡ frame_told blank f = cc e in
      (g, rest, refl, same)

  -- the first frame in the lane from p to q does in the world what that frame does at q's last node
  pub record FrontLike (p q : ℕ) (f : FrameAt P) : Type 0 where
    pub frame : FrameAt P
    pub rest : List (FrameAt P)
    pub front : v.lanes p q ≡ frame ∷ rest
    pub told_alike : frame_told blank frame ≡ frame_told blank f
    pub same : arrives play.blank play.parties pick (v.nodes q) p frame ≡ arrives play.blank play.parties pick (last q) p f

  -- the frame that the lane reports first
  pub front_like : (p q : ℕ) (f : FrameAt P) (more : List (FrameAt P)) → left p q ≡ frame_told blank f ∷ more → FrontLike p q f
  front_like p q f more is =
      let g = front_of (v.lanes p q) f more (holds.lanes p q ∙ is) in
      record {
        frame = g.0;
        rest = g.1;
        front = g.2;
        told_alike = g.3;
        same = same_arrives play.blank play.parties pick blank (v.nodes q) p g.0 f g.3 ∙ ap (λ (n : NodeAt P Q). arrives play.blank play.parties pick n p f) (holds.nodes q);
      }

  -- where a worker's node refused the frame that it popped last, the front frame of that lane fits
  -- no row in the world
  pub refused_frame : (p q : ℕ) (f : FrameAt P) (more : List (FrameAt P)) → left p q ≡ frame_told blank f ∷ more → arrives play.blank play.parties pick (last q) p f ≡ None →
      happens play pick v q (Deliver p) ≡ None
  refused_frame p q f more is row =
      let g : FrontLike p q f = front_like p q f more is in
      let none : arrives play.blank play.parties pick (v.nodes q) p g.frame ≡ None = g.same ∙ row in
      rw (g.front, none)

  -- where its node refused the act, so does the world
  pub refused_act : (q : ℕ) → acts play q (last q) ≡ None → happens play pick v q Act ≡ None
  refused_act q row =
      let none : acts play q (v.nodes q) ≡ None = ap (acts play q) (holds.nodes q) ∙ row in
      rw none
