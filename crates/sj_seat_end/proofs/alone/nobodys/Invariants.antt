use Rattle.sj_seat_end.specs.Alone.{AreNobodys}
use Rattle.sj_seat_end.proofs.alone.nobodys.Given as goal

abbrev pub invariant-loop-n : goal.invariant-loop-n
invariant-loop-n g l = AreNobodys l.n l.codes.items
