use Rattle.sj_work.specs.Worked.{Worked}
use Rattle.sj_seat_run.proofs.parts.work_while.Given as goal

-- all calls so far are one
abbrev pub invariant-loop-looked : goal.invariant-loop-looked
invariant-loop-looked g l = Worked g.O.OutLane g.I.InLane l.looks l.fn.worker l.worker
