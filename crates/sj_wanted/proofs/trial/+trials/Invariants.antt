use Rattle.std.proofs.Common.{length}
use Rattle.sj_wanted.proofs.trial.+trials.Given as goal

abbrev pub decreases-trials : goal.decreases-trials
decreases-trials l = length l.tokens.now
