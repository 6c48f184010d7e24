use Rattle.std.proofs.Common.{length, ◌-◌}
use Rattle.sj_lang.specs.Alike.{AlikeTo}
use Rattle.sj_lang.proofs.meeting.arms_alike.Given as goal

abbrev pub invariant-loop-count : goal.invariant-loop-count
invariant-loop-count l = AlikeTo l.count l.arms l.labels

abbrev pub decreases-loop-count : goal.decreases-loop-count
decreases-loop-count l = length l.arms - l.count
