use Rattle.sj_steal.specs.Runs.{Each2}
use Rattle.sj_work.specs.Worked.{Worked}
use Rattle.sj_run.proofs.rounds.until_still.Given as goal

-- all calls so far are one
abbrev pub invariant-loop : goal.invariant-loop
invariant-loop g l =
    Each2 (Worked g.O.OutLane g.I.InLane l.looks)
    l.fn.workers.items l.workers.items
