use Rattle.std.proofs.Common.{arith}
use Rattle.sj_expr.proofs.TextLemmas.{last_decides}
use Rattle.sj_expr.proofs.operands.is_quoted.Goals as goal

pub returns-clause-quotes : goal.returns-clause-quotes
returns-clause-quotes c = last_decides c.args.piece.now (omega arith) (omega arith)
