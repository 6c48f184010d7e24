use Rattle.std.proofs.Common.{◌≡◌, None}
use Rattle.sj_engine.specs.Rounds.{Rounds}
use Rattle.sj_work.specs.Views.{stop_of}
use Rattle.sj_work.specs.Worked.{kept_stop}
use Rattle.sj_engine.proofs.rounds.batches.Given as goal

abbrev pub invariant-loop : goal.invariant-loop
invariant-loop g l = record {
  rounds : Rounds None l.fn.worker l.worker;
  goes : (kept_stop (stop_of l.fn.worker) ≡ None → kept_stop (stop_of l.worker) ≡ None);
}
