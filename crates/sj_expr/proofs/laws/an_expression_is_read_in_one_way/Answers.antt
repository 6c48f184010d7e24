use Rattle.sj_expr.proofs.UniquenessLemmas.{one_expression}
use Rattle.sj_expr.proofs.laws.an_expression_is_read_in_one_way.Goals as goal

pub returns : goal.returns
returns c = λ L names t u ps qs x y h g. one_expression L names t u ps qs x y h.spelt g.spelt
