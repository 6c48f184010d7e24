-- Each party has steps to do, and the lanes go with them. Where one party does its first step, that
-- stays so.
use Rattle.std.proofs.Common.{◌≡◌, ℕ, ◌+◌, ◌<◌, List, ◌∷◌, ◌++◌, refl, sym, ap, subst, ◌∙◌, arith, append_assoc}
use Rattle.std.specs.Prelude.{Bool, true, false, ◌&&◌, ◌==◌, if◌then◌else◌, max}
use Rattle.std.specs.List.{cons_option}
use Rattle.std.proofs.lemmas.Bool.{eqb-true, eq-eqb}
use Rattle.std.proofs.lemmas.List.{map-append}
use Rattle.sj_rules.specs.Node.{Play, NodeAt}
use Rattle.sj_rules.specs.Frames.{FrameAt, frames_for}
use Rattle.sj_rules.specs.World.{WorldAt, with_lane, lanes_with}
use Rattle.sj_rules.specs.NodeRun.{Deed, Acted, Came, StepAt, Steps, NodeRun, clock_after, frame_from, popped_from, posted_to, frame_told, told_frames}
use Rattle.sj_joined_lemmas.proofs.OrderLemmas.{rests_same}
use Rattle.sj_joined_lemmas.proofs.OwnStepLemmas.{Fed, by_itself, by_frame, stepped}
use Rattle.sj_joined_lemmas.proofs.LateLemmas.{NoneBefore, Next, next_in}

-- party p's steps are these from now on
abbrev pub put_steps : {P : Type 0} → ℕ → List (StepAt P) → (ℕ → List (StepAt P)) → ℕ → List (StepAt P)
put_steps p ss steps = λ q. if q == p then ss else steps q

-- each party's steps lead from its node in the world to its last one. A lane, and then what these
-- steps post to it, is what they pop from it, and then what is left
pub record IsOnward {P Q : Type 0} (play : Play P Q) (pick : ℕ → ℕ → ℕ) (blank : P) (last : ℕ → NodeAt P Q) (left : ℕ → ℕ → List (FrameAt P))
    (w : WorldAt P Q) (steps : ℕ → List (StepAt P)) : Type 0 where
  pub runs : (p : ℕ) → NodeRun play pick p (w.nodes p) (steps p) (last p)
  pub lanes : (p q : ℕ) → told_frames blank (w.lanes p q) ++ posted_to blank q (steps p) ≡ popped_from blank p (steps q) ++ left p q

-- the lanes without the frame of that deed
pub record FedLanes {P : Type 0} (blank : P) (p : ℕ) (lanes : ℕ → ℕ → List (FrameAt P)) (d : Deed P) : Type 0 where
  pub after : ℕ → ℕ → List (FrameAt P)
  pub fed : Fed blank p lanes d after

module _ {P Q : Type 0} (play : Play P Q) (pick : ℕ → ℕ → ℕ) (blank : P) (last : ℕ → NodeAt P Q) (left : ℕ → ℕ → List (FrameAt P))
    (w : WorldAt P Q) (steps : ℕ → List (StepAt P)) (onward : IsOnward play pick blank last left w steps)
    (p : ℕ) (s : StepAt P) (ss : List (StepAt P)) (first : steps p ≡ s ∷ ss) where
  -- the party's run, its first step apart
  here : NodeRun play pick p (w.nodes p) (s ∷ ss) (last p)
  here = subst (λ (l : List (StepAt P)). NodeRun play pick p (w.nodes p) l (last p)) first (onward.runs p)

  -- the node after the first step
  pub next : NodeAt P Q
  next = here.0

  -- the first step
  pub step_here : Steps play pick p (w.nodes p) s next
  unfolding next
  step_here = here.1

  -- what p pops from a party
  pops_of : (a b : ℕ) → b ≡ p → (d : Deed P) → s.deed ≡ d → popped_from blank a (steps b) ≡ cons_option (frame_from blank a d) (popped_from blank a ss)
  pops_of a b at d is = rw (at, first, is)

  -- the frame of the step is the next in its lane
  pub feeds : ((q : ℕ) → NoneBefore s.entry.clock (posted_to blank p (steps q))) → FedLanes blank p w.lanes s.deed
  feeds late = by s.deed refl
    where
      by : (d : Deed P) → s.deed ≡ d → FedLanes blank p w.lanes d
      by Acted is = record { after = w.lanes; fed = by_itself }
      by (Came q f) is =
          let pops : popped_from blank q (steps p) ≡ frame_told blank f ∷ popped_from blank q ss = pops_of q p refl (Came q f) is ∙ rw (eq-eqb q q refl) in
          let all : told_frames blank (w.lanes q p) ++ posted_to blank p (steps q) ≡ frame_told blank f ∷ (popped_from blank q ss ++ left q p) =
          onward.lanes q p ∙ ap (λ l. l ++ left q p) pops in
          let times : s.entry.clock ≡ max (w.nodes p).clock f.clock + 1 = step_here.clock ∙ ap (clock_after (w.nodes p)) is in
          let lower : f.clock < s.entry.clock = omega (arith, times) in
          let n : Next blank f (w.lanes q p) = next_in blank s.entry.clock f (w.lanes q p) (posted_to blank p (steps q)) (popped_from blank q ss ++ left q p) lower (late q) all in
          record { after = with_lane q p n.rest w.lanes; fed = by_frame q f n.frame n.rest n.front n.same }

  -- without the frame, the lanes go with what is still to be popped
  fed_lanes : (d : Deed P) (lanes : ℕ → ℕ → List (FrameAt P)) → s.deed ≡ d → Fed blank p w.lanes d lanes → (a b : ℕ) →
      told_frames blank (lanes a b) ++ posted_to blank b (steps a) ≡ popped_from blank a (put_steps p ss steps b) ++ left a b
  fed_lanes d lanes is by_itself a b = by (b == p) refl
    where
      by : (c : Bool) → (b == p) ≡ c →
          told_frames blank (w.lanes a b) ++ posted_to blank b (steps a) ≡ popped_from blank a (if c then ss else steps b) ++ left a b
      by true e = onward.lanes a b ∙ ap (λ l. l ++ left a b) (pops_of a b (eqb-true b p e) Acted is)
      by false e = onward.lanes a b
  fed_lanes d lanes is (by_frame q f g rest front same) a b = by (a == q) (b == p) refl refl
    where
      tail : told_frames blank rest ++ posted_to blank p (steps q) ≡ popped_from blank q ss ++ left q p
      tail =
          let pops : popped_from blank q (steps p) ≡ frame_told blank f ∷ popped_from blank q ss = pops_of q p refl (Came q f) is ∙ rw (eq-eqb q q refl) in
          rests_same (frame_told blank g) (frame_told blank f) (told_frames blank rest ++ posted_to blank p (steps q)) (popped_from blank q ss ++ left q p)
          (ap (λ l. told_frames blank l ++ posted_to blank p (steps q)) (sym front) ∙ onward.lanes q p ∙ ap (λ l. l ++ left q p) pops)

      by : (c e : Bool) → (a == q) ≡ c → (b == p) ≡ e →
          told_frames blank (if c && e then rest else w.lanes a b) ++ posted_to blank b (steps a) ≡ popped_from blank a (if e then ss else steps b) ++ left a b
      by true true i j = let k : a ≡ q = eqb-true a q i in let m : b ≡ p = eqb-true b p j in rw (k, m) tail
      by false true i j =
          let pops : popped_from blank a (steps b) ≡ popped_from blank a ss = pops_of a b (eqb-true b p j) (Came q f) is ∙ rw i in
          onward.lanes a b ∙ ap (λ l. l ++ left a b) pops
      by true false i j = onward.lanes a b
      by false false i j = onward.lanes a b

  -- with what is posted, they go with what is still to be posted too
  posted_lanes : (lanes : ℕ → ℕ → List (FrameAt P)) →
      ((a b : ℕ) → told_frames blank (lanes a b) ++ posted_to blank b (steps a) ≡ popped_from blank a (put_steps p ss steps b) ++ left a b) → (a b : ℕ) →
      told_frames blank (lanes_with p s.entry.clock s.posts lanes a b) ++ posted_to blank b (put_steps p ss steps a)
      ≡ popped_from blank a (put_steps p ss steps b) ++ left a b
  posted_lanes lanes before a b = by (a == p) refl
    where
      by : (c : Bool) → (a == p) ≡ c →
          told_frames blank (if c then lanes a b ++ frames_for b s.entry.clock s.posts else lanes a b) ++ posted_to blank b (if c then ss else steps a)
          ≡ popped_from blank a (put_steps p ss steps b) ++ left a b
      by true e =
          let posts : posted_to blank b (steps a) ≡ told_frames blank (frames_for b s.entry.clock s.posts) ++ posted_to blank b ss = rw (eqb-true a p e, first) in
          ap (λ l. l ++ posted_to blank b ss) (map-append (frame_told blank) (lanes a b) (frames_for b s.entry.clock s.posts))
          ∙ append_assoc (told_frames blank (lanes a b)) (told_frames blank (frames_for b s.entry.clock s.posts)) (posted_to blank b ss)
          ∙ ap (λ l. told_frames blank (lanes a b) ++ l) (sym posts) ∙ before a b
      by false e = before a b

  -- each party still has its run
  runs_after : (q : ℕ) → NodeRun play pick q (if q == p then record step_here.done.state { clock = s.entry.clock } else w.nodes q) (put_steps p ss steps q) (last q)
  unfolding next
  runs_after q = by (q == p) refl
    where
      by : (c : Bool) → (q == p) ≡ c → NodeRun play pick q (if c then record step_here.done.state { clock = s.entry.clock } else w.nodes q) (if c then ss else steps q) (last q)
      by true e =
          let at : q ≡ p = eqb-true q p e in
          rw at (subst (λ (n : NodeAt P Q). NodeRun play pick p n ss (last p)) step_here.after here.2)
      by false e = onward.runs q

  -- after the step the others go on
  pub goes_onward : (fed : FedLanes blank p w.lanes s.deed) →
      IsOnward play pick blank last left (stepped play pick blank w p s next fed.after step_here fed.fed) (put_steps p ss steps)
  goes_onward fed = record {
    runs = runs_after;
    lanes = λ a b. rw (← step_here.posts) (posted_lanes fed.after (fed_lanes s.deed fed.after refl fed.fed) a b);
  }
