use Rattle.std.proofs.Common.{◌∙◌, sym}
use Rattle.sj_seat_run.proofs.StopLemmas.{none_at_all, none_first, none_next, some_stopped}
use Rattle.sj_seat_run.proofs.stops.any_stopped.Goals as goal

pub loop-worker-init : goal.loop-worker-init
loop-worker-init g c = none_first c.args.workers.now c.args.stop

pub returns-then-is_stop-clause-some : goal.returns-then-is_stop-clause-some
returns-then-is_stop-clause-some g c =
    λ yes. some_stopped c.args.workers.now c.args.stop c.loop-worker.worker-index c.worker-item.result c.loop-worker-test.true c.worker-item.is (sym c.stop.ensures ∙ c.is_stop.ensures.0 c.if-is_stop.true)

pub loop-worker-preserved : goal.loop-worker-preserved
loop-worker-preserved g c =
    none_next c.args.workers.now c.args.stop c.loop-worker.worker-index c.worker-item.result c.loop-worker-test.true c.worker-item.is
    (λ stopped. let yes = c.is_stop.ensures.1 (c.stop.ensures ∙ stopped) in let no = c.if-is_stop.false in cc (yes, no)) c.loop-worker.invariant

pub returns-clause-none : goal.returns-clause-none
returns-clause-none g c = λ no. none_at_all c.args.workers.now c.args.stop c.loop-worker.worker-index c.loop-worker-test.false c.loop-worker.invariant
