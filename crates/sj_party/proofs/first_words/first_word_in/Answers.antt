use Rattle.std.proofs.Common.{rules}
use Rattle.sj_party.proofs.NoStatement.{no_statement}
use Rattle.sj_party.proofs.first_words.first_word_in.Goals as goal

pub returns-clause-none : goal.returns-clause-none
returns-clause-none c =
    no_statement c.args.piece.now c.in_default.ensures.none (search rules) (search rules) (search rules) (search rules) (search rules)
