use Rattle.std.proofs.Common.{List, ap, ◌∙◌}
use Rattle.sj_seat_told_laws.proofs.VerdictLemmas.{verdict_is}
use Rattle.sj_seat_told_laws.specs.SeatsStands.{verdict_with}
use Rattle.sj_semantics.specs.declared.Opened.{Opened}
use Rattle.sj_seat_told.proofs.standing.verdict.Goals as goal

pub returns-clause-world : goal.returns-clause-world
returns-clause-world c = λ t are opened. c.judged.ensures ∙ ap (λ (os : List Opened). verdict_with c.args.stands.now os) opened ∙ verdict_is t c.args.stands.now are
