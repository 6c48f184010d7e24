use Rattle.std.proofs.Common.{◌≡◌, ◌++◌, map, take, vec_len, All, flat_map}
use Rattle.std.specs.List.Sorted.{IsPermutation}
use Rattle.sj_steal.specs.Parts.{Downto}
use Rattle.sj_steal.specs.Members.{IsReach, deque_of, stolen_by, taken_by, way_of}
use Rattle.sj_steal.specs.Teams.{GotBack}
use Rattle.sj_steal.proofs.returns.give_back_each.Given as goal

abbrev pub invariant-loop-reach : goal.invariant-loop-reach
invariant-loop-reach g l =
    Downto GotBack (vec_len l.row) l.initial.members.items l.members.items
    × (map way_of l.row.items ≡ take (vec_len l.row) (map deque_of l.initial.members.items))
    × All IsReach l.row.items
    × IsPermutation (flat_map taken_by l.initial.members.items ++ flat_map stolen_by l.initial.row.items)
    (flat_map taken_by l.members.items ++ flat_map stolen_by l.row.items)

abbrev pub decreases-loop-reach : goal.decreases-loop-reach
decreases-loop-reach g l = goal.left-loop-reach g l
