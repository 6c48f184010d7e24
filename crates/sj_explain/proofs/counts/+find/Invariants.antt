use Rattle.std.proofs.Common.{length}
use Rattle.sj_explain.proofs.counts.+find.Given as goal

abbrev pub decreases-find : goal.decreases-find
decreases-find l = length l.entries.now
