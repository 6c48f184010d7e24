use Rattle.sj_expr.proofs.laws.expressions_are_what_is_due.Goals as goal
use Rattle.sj_expr.proofs.WholeRunLemmas.{is_due}

pub returns : goal.returns
returns c = is_due
