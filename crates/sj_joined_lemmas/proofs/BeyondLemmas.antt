-- What the world has, to which the joined logs lead, beside the parties of the file and the lanes
-- between them.
use Rattle.std.proofs.Common.{◌≡◌, ℕ, ◌<◌, ◌≤◌, List, [], ◌∷◌, ◌++◌, refl, sym, ap, ◌∙◌, arith}
use Rattle.std.specs.Prelude.{true, false, nat_lt}
use Rattle.std.proofs.lemmas.Bool.Decides.{nat_tests}
use Rattle.sj_rules.specs.Node.{Play}
use Rattle.sj_rules.specs.Frames.{FrameAt}
use Rattle.sj_rules.specs.World.{WorldAt}
use Rattle.sj_rules.specs.Log.{LineAt, IsJoined, logs_below}
use Rattle.sj_rules.specs.NodeRun.{popped_from, told_frames}
use Rattle.sj_rules.specs.Joined.{PartiesWork, WorkerAt, Works, fresh, lost_below, workers_below}
use Rattle.sj_joined_lemmas.proofs.PartiesLemmas.{all_work, parties_run, waiting}

-- two lists that are nothing together are nothing
first_none : {X : Type 0} → (xs ys : List X) → xs ++ ys ≡ [] → xs ≡ []
first_none [] ys e = refl
first_none (x ∷ xs) ys e = absurd (cc e)

second_none : {X : Type 0} → (xs ys : List X) → xs ++ ys ≡ [] → ys ≡ []
second_none [] ys e = e
second_none (x ∷ xs) ys e = absurd (cc e)

-- a lane that reports nothing is empty
told_none : {P : Type 0} → (blank : P) (frames : List (FrameAt P)) → told_frames blank frames ≡ [] → frames ≡ []
told_none blank [] e = refl
told_none blank (f ∷ fs) e = absurd (cc e)

module _ {P Q : Type 0} (play : Play P Q) (pick : ℕ → ℕ → ℕ) (blank : P) (n : ℕ) (start : WorldAt P Q) (workers : ℕ → WorkerAt P Q)
    (lost : ℕ → ℕ → List (FrameAt P)) (all : PartiesWork play pick blank n start workers lost)
    (lines : List LineAt) (joined : IsJoined (logs_below (λ q. (workers q).log) n) lines) where
  abbrev last : WorldAt P Q
  last = (parties_run play pick blank n start workers lost all lines joined).world

  -- nodes beside them are as they were
  pub node_beyond : (p : ℕ) → n ≤ p → last.nodes p ≡ start.nodes p
  node_beyond p le =
      let e : nat_lt p n ≡ false = grind (arith, nat_tests) in
      rw e at ((parties_run play pick blank n start workers lost all lines joined).holds.nodes p)

  -- from them nothing is on its way
  pub none_from_beyond : (p q : ℕ) → n ≤ p → last.lanes p q ≡ []
  none_from_beyond p q le =
      let e : nat_lt p n ≡ false = grind (arith, nat_tests) in
      let a = all_work play pick blank n start workers lost all in
      let w : Works play pick blank q (fresh (start.nodes q)) (workers_below n start workers q) (lost_below n lost q) = a.each q in
      let wait : List (FrameAt P) = waiting play pick blank n start workers lost all p q in
      let front : [] ≡ (workers_below n start workers q).popped p ++ wait = rw e at (a.front p q) in
      let popped : (workers_below n start workers q).popped p ≡ [] = first_none ((workers_below n start workers q).popped p) wait (sym front) in
      let waits : wait ≡ [] = second_none ((workers_below n start workers q).popped p) wait (sym front) in
      let lost_none : lost_below n lost q p ≡ [] = second_none (popped_from blank p w.steps) (lost_below n lost q p) (sym (w.popped p) ∙ popped) in
      let lane : told_frames blank (last.lanes p q) ≡ (lost_below n lost q p ++ wait) ++ [] =
      rw e at ((parties_run play pick blank n start workers lost all lines joined).holds.lanes p q) in
      told_none blank (last.lanes p q) (lane ∙ ap (λ l. (l ++ wait) ++ []) lost_none ∙ ap (λ l. l ++ []) waits)

  -- to them goes what was pushed and what waits in the outbox
  pub all_to_beyond : (p q : ℕ) → p < n → n ≤ q → told_frames blank (last.lanes p q) ≡ (workers p).pushed q ++ (workers p).box q
  all_to_beyond p q lt le =
      let here : nat_lt p n ≡ true = grind (arith, nat_tests) in
      let there : nat_lt q n ≡ false = grind (arith, nat_tests) in
      let a = all_work play pick blank n start workers lost all in
      let wait : List (FrameAt P) = waiting play pick blank n start workers lost all p q in
      let front : (workers p).pushed q ≡ wait = rw (here, there) at (a.front p q) in
      let lane : told_frames blank (last.lanes p q) ≡ wait ++ (workers p).box q =
      rw (here, there) at ((parties_run play pick blank n start workers lost all lines joined).holds.lanes p q) in
      lane ∙ ap (λ l. l ++ (workers p).box q) (sym front)
