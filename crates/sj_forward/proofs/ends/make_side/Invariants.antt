use Rattle.std.proofs.Common.{ℕ, ◌+◌, ◌-◌, slice_get, vec_len}
use Rattle.sj_forward.specs.Ends.{SideStays}
use Rattle.sj_forward.proofs.ends.make_side.Given as goal

-- each slot has the same
abbrev pub invariant-loop-alloc : goal.invariant-loop-alloc
invariant-loop-alloc l = (k : ℕ) → SideStays (slice_get l.initial.row.items k) (slice_get l.row.items k)

abbrev pub decreases-loop-alloc : goal.decreases-loop-alloc
decreases-loop-alloc l = l.side + 1 - vec_len l.row
