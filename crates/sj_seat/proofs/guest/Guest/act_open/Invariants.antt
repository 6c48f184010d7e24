use Rattle.sj_seat.proofs.AfterLemmas.{Waited}
use Rattle.sj_seat.proofs.guest.Guest.act_open.Given as goal

abbrev pub invariant-loop : goal.invariant-loop
invariant-loop g l = Waited g.O.OutLane g.I.InLane l.fn.self l.self
