use Rattle.sj_work.specs.declared.worker.Stop.TheVariants as stops
use Rattle.sj_run.proofs.StopLemmas.{NoneBefore}
use Rattle.sj_run.proofs.stops.any_faulty.Given as goal

-- none of those before stopped so
abbrev pub invariant-loop-worker : goal.invariant-loop-worker
invariant-loop-worker g l = NoneBefore l.workers stops.Fault l.worker-index
