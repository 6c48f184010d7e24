use Rattle.std.proofs.Common.{◌≤◌, length}
use Rattle.sj_seat.proofs.firsts.count_of.Given as goal

abbrev pub invariant-loop-n : goal.invariant-loop-n
invariant-loop-n l = l.n ≤ length l.words
