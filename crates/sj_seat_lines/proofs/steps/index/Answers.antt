use Rattle.sj_seat_lines.proofs.NumberLemmas.{index_is}
use Rattle.sj_seat_lines.proofs.steps.index.Goals as goal

pub returns : goal.returns
returns c = index_is c.args.word.now c.args.words.now c.find.result c.find.ensures.found c.find.ensures.none
