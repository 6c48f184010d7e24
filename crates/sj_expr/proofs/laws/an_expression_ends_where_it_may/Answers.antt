use Rattle.sj_expr.proofs.ViabilityLemmas.{is_whole, not_whole}
use Rattle.sj_expr.proofs.laws.an_expression_ends_where_it_may.Goals as goal

pub returns-clause-may : goal.returns-clause-may
returns-clause-may c = is_whole

pub returns-clause-only : goal.returns-clause-only
returns-clause-only c = not_whole
