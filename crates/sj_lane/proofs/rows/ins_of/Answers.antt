use Rattle.std.proofs.Common.{refl}
use Rattle.sj_lane.proofs.MemRowsLemmas.{in_more}
use Rattle.sj_lane.proofs.rows.ins_of.Goals as goal

pub loop-preserved : goal.loop-preserved
loop-preserved c =
    rw c.in_ok-push.ensures.items
    (in_more c.loop.counter c.loop.ins.items _ c.loop.invariant (record { popped = c.new.ensures.items; waits = c.new-in-loop.ensures.items; vain = refl }))
