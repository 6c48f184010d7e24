use Rattle.sj_lane.proofs.MemRowsLemmas.{row_more}
use Rattle.sj_lane.proofs.rows.lanes_of.Goals as goal

pub loop-preserved : goal.loop-preserved
loop-preserved c =
    rw c.in_ok-push.ensures.items (row_more c.args.parties c.loop.counter c.loop.lanes.items _ c.loop.invariant c.in_ok-outs.ensures c.in_ok-ins.ensures)
