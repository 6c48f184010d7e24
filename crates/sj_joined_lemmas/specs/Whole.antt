-- A world that is put together from what parties leave that worked by themselves.
use Rattle.std.specs.Prelude.{◌≡◌, ℕ, ◌<◌, ◌≤◌, List, [], ◌++◌}
use Rattle.std.specs.List.{AllByRecursion}
use Rattle.sj_rules.specs.Frames.{FrameAt, IsNoGive}
use Rattle.sj_rules.specs.World.{WorldAt}
use Rattle.sj_rules.specs.NodeRun.{told_frames}
use Rattle.sj_rules.specs.Joined.{WorkerAt}

-- the lane from p to q reports what waits, and then the outbox; and p pushed what q popped, and
-- then what waits
pub record IsBetween {P Q : Type 0} (blank : P) (workers : ℕ → WorkerAt P Q) (w : WorldAt P Q) (p q : ℕ) : Type 0 where
  pub rest : List (FrameAt P)
  pub pushed : (workers p).pushed q ≡ (workers q).popped p ++ rest
  pub lane : told_frames blank (w.lanes p q) ≡ rest ++ (workers p).box q

-- the workers lost nothing, and the world has their nodes; its lanes report what waits, and then
-- the outbox, and no Give is in them
pub record IsLeft {P Q : Type 0} (blank : P) (n : ℕ) (start : WorldAt P Q) (workers : ℕ → WorkerAt P Q) (lost : ℕ → ℕ → List (FrameAt P)) (w : WorldAt P Q) : Type 0 where
  pub none : (p q : ℕ) → p < n → q < n → lost q p ≡ []
  pub nodes : (p : ℕ) → p < n → w.nodes p ≡ (workers p).node
  pub others : (p : ℕ) → n ≤ p → w.nodes p ≡ start.nodes p
  pub between : (p q : ℕ) → p < n → q < n → IsBetween blank workers w p q
  pub beyond : (p q : ℕ) → p < n → n ≤ q → told_frames blank (w.lanes p q) ≡ (workers p).pushed q ++ (workers p).box q
  pub empty : (p q : ℕ) → n ≤ p → w.lanes p q ≡ []
  pub no_give : (p q : ℕ) → p < n → AllByRecursion (λ f. IsNoGive f.body) (w.lanes p q)
