use Rattle.std.proofs.Common.{◌∙◌}
use Rattle.sj_told.proofs.VerdictLemmas.{verdict_is}
use Rattle.sj_told.proofs.verdicts.verdict_told.Goals as goal

pub returns-clause-seen : goal.returns-clause-seen
returns-clause-seen c = c.verdict_by.ensures

pub returns-clause-world : goal.returns-clause-world
returns-clause-world c = λ w none are. c.verdict_by.ensures ∙ verdict_is w c.args.stands.now none are
