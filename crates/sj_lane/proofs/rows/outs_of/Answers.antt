use Rattle.std.proofs.Common.{refl}
use Rattle.sj_lane.proofs.MemRowsLemmas.{out_more}
use Rattle.sj_lane.proofs.rows.outs_of.Goals as goal

pub loop-preserved : goal.loop-preserved
loop-preserved c =
    rw c.in_ok-push.ensures.items
    (out_more c.loop.counter c.loop.outs.items _ c.loop.invariant (record { pushed = c.new.ensures.items; waits = c.new-in-loop.ensures.items; vain = refl }))
