use Rattle.std.proofs.Common.{◌≡◌, ◌+◌, ◌≤◌, ◌++◌, length, vec_len, vec_capacity}
use Rattle.std.specs.List.Sorted.{IsPermutation}
use Rattle.sj_steal.proofs.returns.pour.Given as goal

abbrev pub invariant-loop-job : goal.invariant-loop-job
invariant-loop-job g l =
    (length l.from.items + vec_len l.into ≤ vec_capacity l.into)
    × (vec_capacity l.into ≡ vec_capacity l.initial.into)
    × IsPermutation (l.initial.into.items ++ l.initial.from.items) (l.into.items ++ l.from.items)

abbrev pub decreases-loop-job : goal.decreases-loop-job
decreases-loop-job g l = goal.left-loop-job g l
