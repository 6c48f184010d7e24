use Rattle.sj_seat_run.specs.Played.{Attends}
use Rattle.sj_seat_run.proofs.parts.attend_while.Given as goal

-- what became of the guest so far
abbrev pub invariant-loop-looked : goal.invariant-loop-looked
invariant-loop-looked g l = Attends g.O.OutLane g.I.InLane l.fn.guest l.guest
