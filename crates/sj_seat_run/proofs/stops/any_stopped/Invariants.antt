use Rattle.sj_seat_run.proofs.StopLemmas.{NoneBefore}
use Rattle.sj_seat_run.proofs.stops.any_stopped.Given as goal

-- none of those before stopped so
abbrev pub invariant-loop-worker : goal.invariant-loop-worker
invariant-loop-worker g l = NoneBefore l.workers l.stop l.worker-index
