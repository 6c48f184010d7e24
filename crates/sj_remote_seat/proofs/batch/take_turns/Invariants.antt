use Rattle.sj_remote_seat.specs.Steps.{Steps}
use Rattle.sj_remote_seat.specs.Turns.{Turns}
use Rattle.sj_remote_seat.proofs.batch.take_turns.Given as goal

-- what the party did so far
abbrev pub invariant-loop : goal.invariant-loop
invariant-loop g l = record { turns : Turns l.fn.seat l.going; steps : Steps g.C.Code.step l.fn.code l.code }
