-- The parties of a file: where each worked, their joined logs are a log of the core.
use Rattle.std.proofs.Common.{◌≡◌, ℕ, ◌<◌, ◌≤◌, List, [], ◌++◌, refl, sym, subst, ◌∙◌, arith, append-nil}
use Rattle.std.specs.Prelude.{Bool, true, false, nat_lt, if◌then◌else◌}
use Rattle.std.proofs.lemmas.Bool.Decides.{nat_tests}
use mathlib.Core.List.{IsPrefix}
use Rattle.sj_rules.specs.Node.{Play}
use Rattle.sj_rules.specs.Frames.{FrameAt}
use Rattle.sj_rules.specs.World.{WorldAt}
use Rattle.sj_rules.specs.Log.{EntryAt, LineAt, IsJoined, IsRising, logs_below}
use Rattle.sj_rules.specs.Joined.{WorkerAt, fresh, Works, AllWork, PartiesWork, workers_below, lost_below, left_in}
use Rattle.sj_joined_lemmas.proofs.WorkerLemmas.{works_itself, clocks_rise}
use Rattle.sj_joined_lemmas.proofs.JoinedLemmas.{Reached, joined_logs_run}

-- what the test says
pub below : (p n : ℕ) → nat_lt p n ≡ true → p < n
below p n e = grind (arith, nat_tests)

-- and what it says where it is false
pub not_below : (p n : ℕ) → nat_lt p n ≡ false → n ≤ p
not_below p n e = grind (arith, nat_tests)

-- a front has a rest
front_rest : {X : Type 0} → (xs ys : List X) → IsPrefix xs ys → (rest : List X) × (ys ≡ xs ++ rest)
front_rest xs ys e = (e.0, sym e.1)

module _ {P Q : Type 0} (play : Play P Q) (pick : ℕ → ℕ → ℕ) (blank : P) (n : ℕ) (start : WorldAt P Q) (workers : ℕ → WorkerAt P Q)
    (lost : ℕ → ℕ → List (FrameAt P)) (all : PartiesWork play pick blank n start workers lost) where
  -- nodes beside them do nothing
  each_works : (p : ℕ) → Works play pick blank p (fresh (start.nodes p)) (workers_below n start workers p) (lost_below n lost p)
  each_works p = by (nat_lt p n) refl
    where
      by : (b : Bool) → nat_lt p n ≡ b →
          Works play pick blank p (fresh (start.nodes p)) (if b then workers p else fresh (start.nodes p)) (λ q. if b then lost p q else [])
      by true e = all.each p (below p n e)
      by false e = works_itself play pick blank p (fresh (start.nodes p))

  -- what was popped is a front, for all
  front_at : (p q : ℕ) → (rest : List (FrameAt P)) × ((workers_below n start workers p).pushed q ≡ (workers_below n start workers q).popped p ++ rest)
  front_at p q = by (nat_lt p n) (nat_lt q n) refl refl
    where
      by : (b c : Bool) → nat_lt p n ≡ b → nat_lt q n ≡ c →
          (rest : List (FrameAt P)) × ((if b then workers p else fresh (start.nodes p)).pushed q ≡ (if c then workers q else fresh (start.nodes q)).popped p ++ rest)
      by true true i j = front_rest ((workers q).popped p) ((workers p).pushed q) (all.front p q (below p n i) (below q n j))
      by true false i j = ((workers p).pushed q, refl)
      by false true i j = ([], sym (all.apart p q (not_below p n i) (below q n j)) ∙ sym (append-nil ((workers q).popped p)))
      by false false i j = ([], refl)

  -- what waits in the lanes
  pub waiting : ℕ → ℕ → List (FrameAt P)
  waiting p q = (front_at p q).0

  -- the parties of the file, and all others
  pub all_work : AllWork play pick blank start (workers_below n start workers) (lost_below n lost) waiting
  unfolding waiting
  all_work = record { each = each_works; front = λ p q. (front_at p q).1; empty = all.empty }

  -- the logs of those below n
  logs_are : (p : ℕ) → logs_below (λ q. (workers q).log) n p ≡ (workers_below n start workers p).log
  logs_are p = by (nat_lt p n)
    where
      by : (b : Bool) → (if b then (workers p).log else []) ≡ (if b then workers p else fresh (start.nodes p)).log
      by true = refl
      by false = refl

  -- their joined logs are a log of the core, and at its end the world has each worker's node
  pub parties_run : (lines : List LineAt) → IsJoined (logs_below (λ q. (workers q).log) n) lines →
      Reached play pick blank (λ p. (workers_below n start workers p).node) (left_in (workers_below n start workers) (lost_below n lost) waiting)
      (λ p q. (workers_below n start workers p).pushed q ++ (workers_below n start workers p).box q) start lines
  parties_run lines joined =
      joined_logs_run play pick blank start (workers_below n start workers) (lost_below n lost) waiting all_work lines
      (record { order = joined.order; parts = λ p. joined.parts p ∙ logs_are p })

  -- the clocks of each log rise
  pub logs_rise : (p : ℕ) → p < n → IsRising (start.nodes p).clock (workers p).log
  logs_rise p h =
      let w : Works play pick blank p (fresh (start.nodes p)) (workers p) (lost p) = all.each p h in
      subst (λ (es : List EntryAt). IsRising (start.nodes p).clock es) (sym w.log) (clocks_rise play pick blank p w.steps (start.nodes p) (workers p).node w.run)

  -- the world has the worker's node
  pub has_node : (p : ℕ) → p < n → (workers_below n start workers p).node ≡ (workers p).node
  has_node p h = let e : nat_lt p n ≡ true = grind (arith, nat_tests) in rw e
