-- What the parties of a file report together: their logs can be joined, in one way only, and the
-- joined lines are a run of the core.
use Rattle.std.proofs.Common.{◌≡◌, ℕ, ◌<◌, List, [], refl, ◌∙◌, arith}
use Rattle.std.specs.Prelude.{Bool, true, false, nat_lt, if◌then◌else◌}
use Rattle.std.proofs.lemmas.Bool.Decides.{nat_tests}
use Rattle.sj_rules.specs.Node.{Play}
use Rattle.sj_rules.specs.Frames.{FrameAt}
use Rattle.sj_rules.specs.World.{WorldAt}
use Rattle.sj_rules.specs.Log.{EntryAt, LineAt, IsJoined, IsRising, logs_below}
use Rattle.sj_rules.specs.Joined.{WorkerAt, PartiesWork, IsLaneLeft, IsJoinedRun}
use Rattle.sj_joined_lemmas.proofs.MergeLemmas.{joined_of, all_joined}
use Rattle.sj_joined_lemmas.proofs.PartiesLemmas.{waiting, all_work, parties_run, logs_rise}
use Rattle.sj_joined_lemmas.proofs.ToldRunLemmas.{world_node, part_is, posts_pushed, popped_noted}

-- the parties below n, taken twice, are those below n
below_twice : (logs : ℕ → List EntryAt) (n p : ℕ) → logs_below (logs_below logs n) n p ≡ logs_below logs n p
below_twice logs n p = by (nat_lt p n)
  where
    by : (b : Bool) → (if b then (if b then logs p else []) else []) ≡ (if b then logs p else [])
    by true = refl
    by false = refl

module _ {P Q : Type 0} (play : Play P Q) (pick : ℕ → ℕ → ℕ) (blank : P) (n : ℕ) (start : WorldAt P Q) (workers : ℕ → WorkerAt P Q)
    (lost : ℕ → ℕ → List (FrameAt P)) (all : PartiesWork play pick blank n start workers lost) where
  abbrev logs : ℕ → List EntryAt
  logs p = (workers p).log

  -- the clocks rise in each of these logs
  below_rise : (p : ℕ) → IsRising (start.nodes p).clock (logs_below logs n p)
  below_rise p = by (nat_lt p n) refl
    where
      by : (b : Bool) → nat_lt p n ≡ b → IsRising (start.nodes p).clock (if b then logs p else [])
      by true e = let lt : p < n = grind (arith, nat_tests) in logs_rise play pick blank n start workers lost all p lt
      by false e = tt

  -- the logs can be joined
  pub logs_join : (lines : List LineAt) × IsJoined (logs_below logs n) lines
  logs_join =
      let j = all_joined (logs_below logs n) (λ p. (start.nodes p).clock) below_rise n in
      (joined_of (logs_below logs n) n, record { order = j.order; parts = λ p. j.parts p ∙ below_twice logs n p })

  module _ (lines : List LineAt) (joined : IsJoined (logs_below logs n) lines) where
    -- the world that they lead to
    abbrev pub last_world : WorldAt P Q
    last_world = (parties_run play pick blank n start workers lost all lines joined).world

    lane_left : (p q : ℕ) → p < n → q < n → IsLaneLeft blank last_world workers lost p q
    lane_left p q lt mt =
        let here : nat_lt p n ≡ true = grind (arith, nat_tests) in
        let there : nat_lt q n ≡ true = grind (arith, nat_tests) in
        let a = all_work play pick blank n start workers lost all in
        record {
          waits = waiting play pick blank n start workers lost all p q;
          pushed = rw (here, there) at (a.front p q);
          lane = rw (here, there) at ((parties_run play pick blank n start workers lost all lines joined).holds.lanes p q);
        }

    -- the joined lines are a run of the core, which ends in each worker's node
    pub joined_run : IsJoinedRun play pick blank n start workers lost lines last_world
    joined_run = record {
      log = (parties_run play pick blank n start workers lost all lines joined).log;
      parts = part_is play pick blank n start workers lost all lines joined;
      nodes = world_node play pick blank n start workers lost all lines joined;
      lanes = lane_left;
      posts = posts_pushed play pick blank n start workers lost all lines joined;
      noted = popped_noted play pick blank n start workers lost all lines joined;
    }
