use Rattle.sj_proto.proofs.TableLemmas.{table_is, within_is, here_is}
use Rattle.sj_proto.proofs.naming.number_of.Goals as goal

pub returns-clause-table : goal.returns-clause-table
returns-clause-table c = table_is c.args.names.now.words c.add.new.self c.args.word.now c.in_ok-n.n c.in_ok-n.ensures.index c.in_ok-n.ensures.kept

pub returns-clause-there : goal.returns-clause-there
returns-clause-there c = within_is c.add.new.self c.args.word.now c.in_ok-n.n c.in_ok-n.ensures.index

pub returns-clause-here : goal.returns-clause-here
returns-clause-here c = here_is c.add.new.self c.args.word.now c.in_ok-n.n c.in_ok-n.ensures.index
