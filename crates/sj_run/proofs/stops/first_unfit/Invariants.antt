use Rattle.sj_work.specs.declared.worker.Stop.TheVariants as stops
use Rattle.sj_run.proofs.StopLemmas.{NoneBefore}
use Rattle.sj_run.proofs.stops.first_unfit.Given as goal

-- none of those before stopped so
abbrev pub invariant-loop-worker : goal.invariant-loop-worker
invariant-loop-worker g l = NoneBefore l.workers stops.Unfit l.worker-index
