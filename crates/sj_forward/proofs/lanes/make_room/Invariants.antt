use Rattle.std.proofs.Common.{◌≡◌, ℕ, ◌+◌, ◌-◌, vec_len}
use Rattle.sj_forward.specs.Outs.{lane_in}
use Rattle.sj_forward.proofs.lanes.make_room.Given as goal

-- the same is on its way
abbrev pub invariant-loop-alloc : goal.invariant-loop-alloc
invariant-loop-alloc l = (q : ℕ) → lane_in l.outs.items q ≡ lane_in l.initial.outs.items q

abbrev pub decreases-loop-alloc : goal.decreases-loop-alloc
decreases-loop-alloc l = l.to + 1 - vec_len l.outs
