use Rattle.sj_talk.proofs.NameLemmas.{added_number, added_table}
use Rattle.sj_talk.proofs.names.added.Goals as goal

pub returns-clause-number : goal.returns-clause-number
returns-clause-number c = added_number c.args.word.now c.args.words.now c.add.new.self c.add.result c.add.ensures.index c.add.ensures.kept

pub returns-clause-ok : goal.returns-clause-ok
returns-clause-ok c = added_table c.args.word.now c.args.words.now c.add.new.self c.add.result c.add.ensures.index c.add.ensures.kept
