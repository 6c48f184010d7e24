use Rattle.sj_expr.proofs.laws.no_expression_has_a_fault.Goals as goal
use Rattle.sj_expr.proofs.WholeRunLemmas.{no_fault}

pub returns : goal.returns
returns c = no_fault
