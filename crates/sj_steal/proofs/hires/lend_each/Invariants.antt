use Rattle.std.proofs.Common.{◌≡◌, ◌≤◌, [], flat_map, All, map, take, vec_len, vec_capacity}
use Rattle.sj_steal.specs.Parts.{Upto}
use Rattle.sj_steal.specs.Members.{IsReach, deque_of, stolen_by, way_of}
use Rattle.sj_steal.specs.Teams.{Lent}
use Rattle.sj_steal.proofs.hires.lend_each.Given as goal

abbrev pub invariant-loop-worker : goal.invariant-loop-worker
invariant-loop-worker g l =
    Upto Lent l.worker l.initial.members.items l.members.items
    × (map way_of l.row.items ≡ take l.worker (map deque_of l.initial.members.items))
    × All IsReach l.row.items
    × (flat_map stolen_by l.row.items ≡ [])
    × (vec_len l.row ≡ l.worker)
    × (vec_len l.initial.members ≤ vec_capacity l.row)
