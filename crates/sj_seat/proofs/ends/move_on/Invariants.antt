use Rattle.sj_seat.proofs.MovedLemmas.{IsMovedTo}
use Rattle.sj_seat.proofs.ends.move_on.Given as goal

abbrev pub invariant-loop-at : goal.invariant-loop-at
invariant-loop-at l = IsMovedTo l.table l.end l.way l.msg l.at l.fn.ends l.ends
