use Rattle.sj_wanted.proofs.LineLemmas.{line_is}
use Rattle.sj_wanted.proofs.table.put_wanted.Goals as goal

-- src/table.rt:122:1
pub returns-clause-marks : goal.returns-clause-marks
returns-clause-marks c = c.in_ok-marks.ensures.each

-- src/table.rt:122:1
pub returns-clause-line : goal.returns-clause-line
returns-clause-line c = line_is c.args.text.now.items c.put.new.text.items c.put_chosen.new.text.items c.put-2.new.text.items c.in_ok-marks.marks.items c.deref.result.now c.in_ok-put.ensures.ok c.deref.ensures.value c.in_ok-put_chosen.ensures c.in_ok-put-2.ensures.ok
