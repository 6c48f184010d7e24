use Rattle.std.proofs.Common.{◌+◌, ◌∙◌, ap}
use Rattle.sj_plain.specs.Opened.{before_in}
use Rattle.sj_plain.proofs.SearchLemmas.{before_rises}
use Rattle.sj_plain.proofs.sessions.own.Goals as goal

pub returns-clause-within : goal.returns-clause-within
returns-clause-within c =
    (before_rises c.args.opened.now c.args.party c.before-start.result c.before-end.result (c.before-start.ensures ∙ ap (before_in c.args.opened.now) c.from.ensures) (c.before-end.ensures ∙ ap (λ t. before_in c.args.opened.now (t + 1)) c.from-2.ensures)).0

pub returns-clause-fits : goal.returns-clause-fits
returns-clause-fits c =
    (before_rises c.args.opened.now c.args.party c.before-start.result c.before-end.result (c.before-start.ensures ∙ ap (before_in c.args.opened.now) c.from.ensures) (c.before-end.ensures ∙ ap (λ t. before_in c.args.opened.now (t + 1)) c.from-2.ensures)).1
