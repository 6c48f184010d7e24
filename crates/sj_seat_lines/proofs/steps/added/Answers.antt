use Rattle.sj_seat_lines.proofs.NumberLemmas.{added_number, added_table}
use Rattle.sj_seat_lines.proofs.steps.added.Goals as goal

pub returns-clause-number : goal.returns-clause-number
returns-clause-number c = added_number c.args.text.now c.args.texts.now c.number.new.self c.number.result c.number.ensures.number c.number.ensures.kept

pub returns-clause-ok : goal.returns-clause-ok
returns-clause-ok c = added_table c.args.text.now c.args.texts.now c.number.new.self c.number.result c.number.ensures.number c.number.ensures.kept
