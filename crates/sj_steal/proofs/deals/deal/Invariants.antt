use Rattle.std.proofs.Common.{◌≡◌, ◌+◌, ◌++◌, length}
use Rattle.std.specs.List.{flat_map}
use Rattle.std.specs.List.Sorted.{IsPermutation}
use Rattle.sj_steal.specs.Runs.{Each2}
use Rattle.sj_steal.specs.Members.{own_put}
use Rattle.sj_steal.specs.Teams.{Dealt, IsSpread}
use Rattle.sj_steal.proofs.deals.deal.Given as goal

abbrev pub invariant-loop-job : goal.invariant-loop-job
invariant-loop-job g l =
    Each2 Dealt l.initial.members.items l.members.items
    × IsSpread (length l.initial.members.items) l.turn l.members.items
    × (l.turn + length l.jobs.items ≡ length l.initial.jobs.items)
    × IsPermutation (flat_map own_put l.initial.members.items ++ l.initial.jobs.items) (flat_map own_put l.members.items ++ l.jobs.items)

abbrev pub decreases-loop-job : goal.decreases-loop-job
decreases-loop-job g l = goal.left-loop-job g l
