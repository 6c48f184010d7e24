use Rattle.std.proofs.Common.{◌∙◌, ◌-◌, ◌^◌, ap, take}
use Rattle.sj_socket.specs.Counts.{capped_sum, met_in}
use Rattle.sj_socket.specs.Streams.{TcpIn}
use Rattle.sj_socket.proofs.SumLemmas.{next_sum, total_next, total_whole}
use Rattle.sj_socket.proofs.faults.with_ins.Goals as goal

pub loop-lane-preserved : goal.loop-lane-preserved
loop-lane-preserved c =
    c.saturating_add-sum.ensures ∙ next_sum (2 ^ 64 - 1) c.args.before c.loop-lane.sum (met_in (take c.loop-lane.lane-index c.args.ins.now)) _ c.lane-item.result.faults c.loop-lane.invariant
    (total_next (λ (i : TcpIn). i.faults) c.args.ins.now c.loop-lane.lane-index c.lane-item.result c.loop-lane-test.true c.lane-item.is)

pub returns : goal.returns
returns c = c.loop-lane.invariant ∙ ap (capped_sum c.args.before) (total_whole (λ (i : TcpIn). i.faults) c.args.ins.now c.loop-lane.lane-index c.loop-lane-test.false)
