use Rattle.sj_proto.specs.Parsed.{standing}
use Rattle.sj_expr.proofs.FileLemmas.{ok_read, err_stops}
use Rattle.sj_expr.proofs.parse.parse_expression.Goals as goal

pub returns-clause-reads : goal.returns-clause-reads
returns-clause-reads c =
    ok_read c.whole.result (standing c.args.tokens.now c.args.names.now) (standing c.whole.new.tokens c.whole.new.names) c.whole.new.count c.whole.ensures.reads c.whole.ensures.leaves.count c.whole.ensures.leaves.few

pub returns-clause-fault : goal.returns-clause-fault
returns-clause-fault c = err_stops c.whole.result (standing c.args.tokens.now c.args.names.now) c.whole.ensures.fault
