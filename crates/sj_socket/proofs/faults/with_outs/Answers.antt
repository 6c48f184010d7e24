use Rattle.std.proofs.Common.{◌∙◌, ◌-◌, ◌^◌, ap, take}
use Rattle.sj_socket.specs.Counts.{capped_sum, met_out}
use Rattle.sj_socket.specs.Streams.{TcpOut}
use Rattle.sj_socket.proofs.SumLemmas.{next_sum, total_next, total_whole}
use Rattle.sj_socket.proofs.faults.with_outs.Goals as goal

pub loop-out-preserved : goal.loop-out-preserved
loop-out-preserved c =
    c.saturating_add-sum.ensures ∙ next_sum (2 ^ 64 - 1) c.args.before c.loop-out.sum (met_out (take c.loop-out.out-index c.args.outs.now)) _ c.out-item.result.faults c.loop-out.invariant
    (total_next (λ (o : TcpOut). o.faults) c.args.outs.now c.loop-out.out-index c.out-item.result c.loop-out-test.true c.out-item.is)

pub returns : goal.returns
returns c = c.loop-out.invariant ∙ ap (capped_sum c.args.before) (total_whole (λ (o : TcpOut). o.faults) c.args.outs.now c.loop-out.out-index c.loop-out-test.false)
