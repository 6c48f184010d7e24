use Rattle.sj_seat_run.specs.Played.{Played}
use Rattle.sj_remote_seat.specs.Steps.{Steps}
use Rattle.sj_remote_seat.proofs.turns.ask_on.Given as goal

-- what became of the guest so far
abbrev pub invariant-loop : goal.invariant-loop
invariant-loop g l = record { played : Played g.O.OutLane g.I.InLane l.fn.guest l.guest; steps : Steps g.C.Code.step l.fn.code l.code }
