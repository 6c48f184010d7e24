use Rattle.std.proofs.Common.{◌+◌, ◌≤◌, ◌++◌, length, vec_len, vec_capacity, flat_map}
use Rattle.std.specs.List.Sorted.{IsPermutation}
use Rattle.sj_steal.specs.Members.{done_by}
use Rattle.sj_steal.proofs.returns.gather.Given as goal

abbrev pub invariant-loop-member : goal.invariant-loop-member
invariant-loop-member g l =
    (length (flat_map done_by l.members.items) + vec_len l.into ≤ vec_capacity l.into)
    × IsPermutation (l.initial.into.items ++ flat_map done_by l.initial.members.items) (l.into.items ++ flat_map done_by l.members.items)

abbrev pub decreases-loop-member : goal.decreases-loop-member
decreases-loop-member g l = goal.left-loop-member g l
