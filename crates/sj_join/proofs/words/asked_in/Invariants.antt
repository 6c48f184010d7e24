use Rattle.std.proofs.Common.{length, ◌-◌}
use Rattle.sj_join.proofs.words.asked_in.Given as goal

abbrev pub decreases-loop-at : goal.decreases-loop-at
decreases-loop-at l = length l.words - l.at
