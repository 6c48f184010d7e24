use Rattle.std.proofs.Common.{◌≡◌, ◌-◌, ◌+◌, [], All, length, map, flat_map}
use Rattle.std.specs.List.Sorted.{IsPermutation}
use Rattle.sj_steal.specs.Hands.{whole}
use Rattle.sj_steal.specs.Parts.{Parted}
use Rattle.sj_steal.specs.Members.{deque_of, done_by, own_put, taken_by}
use Rattle.sj_steal.specs.Teams.{HasWays, IsBack}
use Rattle.sj_steal.proofs.returns.give_all_back.Given as goal

abbrev pub invariant-loop-worker : goal.invariant-loop-worker
invariant-loop-worker g l =
    All (IsBack (whole - length l.initial.members.items + l.worker)) l.members.items
    × Parted (λ m. m.all.items ≡ []) (HasWays (map deque_of l.members.items)) l.worker l.members.items
    × (length l.members.items ≡ length l.initial.members.items)
    × (flat_map own_put l.members.items ≡ flat_map own_put l.initial.members.items)
    × (flat_map done_by l.members.items ≡ flat_map done_by l.initial.members.items)
    × IsPermutation (flat_map taken_by l.initial.members.items) (flat_map taken_by l.members.items)
