use Rattle.std.proofs.Common.{◌+◌, ◌-◌, vec_len}
use Rattle.sj_forward.specs.Ends.{EndsStay}
use Rattle.sj_forward.proofs.ends.make_slot.Given as goal

-- all ends are as before
abbrev pub invariant-loop-ends : goal.invariant-loop-ends
invariant-loop-ends l = EndsStay l.initial.ends.items l.ends.items

abbrev pub decreases-loop-ends : goal.decreases-loop-ends
decreases-loop-ends l = l.end.sess + 1 - vec_len l.ends
