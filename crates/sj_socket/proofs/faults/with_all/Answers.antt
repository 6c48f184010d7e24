use Rattle.std.proofs.Common.{◌∙◌, ◌-◌, ◌^◌, List, ap, take}
use Rattle.sj_socket.specs.Counts.{capped_sum, met, met_by, met_in, met_out}
use Rattle.sj_socket.specs.Streams.{TcpIn, TcpOut}
use Rattle.sj_socket.proofs.SumLemmas.{next_both, total_next, total_whole}
use Rattle.sj_socket.proofs.faults.with_all.Goals as goal

pub loop-own-preserved : goal.loop-own-preserved
loop-own-preserved c =
    c.with_ins-sum.ensures ∙ ap (λ (xs : List TcpIn). capped_sum c.with_outs.result (met_in xs)) c.deref-in-loop-own.ensures.value
    ∙ next_both (2 ^ 64 - 1) c.args.before c.loop-own.sum (met (take c.loop-own.own-index c.args.lanes.now)) _ c.with_outs.result
    (met_out c.own-item.result.outs.items) (met_in c.own-item.result.ins.items) c.loop-own.invariant
    (total_next met_by c.args.lanes.now c.loop-own.own-index c.own-item.result c.loop-own-test.true c.own-item.is)
    (c.with_outs.ensures ∙ ap (λ (xs : List TcpOut). capped_sum c.loop-own.sum (met_out xs)) c.deref.ensures.value)

pub returns : goal.returns
returns c = c.loop-own.invariant ∙ ap (capped_sum c.args.before) (total_whole met_by c.args.lanes.now c.loop-own.own-index c.loop-own-test.false)
