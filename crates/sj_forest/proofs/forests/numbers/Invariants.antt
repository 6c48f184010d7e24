use Rattle.std.proofs.Common.{◌≡◌, ◌++◌, ◌-◌, length}
use Rattle.sj_forest.specs.Left.{left_in, those_left}
use Rattle.sj_forest.proofs.forests.numbers.Given as goal

abbrev pub invariant-loop-party : goal.invariant-loop-party
invariant-loop-party l = l.numbers.items ++ those_left (left_in l.left) l.party (length l.left - l.party) ≡ those_left (left_in l.left) 0 (length l.left)
