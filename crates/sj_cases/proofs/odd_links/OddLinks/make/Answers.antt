use Rattle.std.proofs.Common.{rules, ap, length}
use Rattle.sj_cases.proofs.OddLemmas.{odd_faultless, odd_fresh, odd_square}
use Rattle.sj_cases.proofs.odd_links.OddLinks.make.Goals as goal

pub returns-in-Ok-clause-square : goal.returns-in-Ok-clause-square
returns-in-Ok-clause-square c = let odd = c.in-Ok.ensures in let all = ap length odd.all in (search (rules, all), odd_square c.in-Ok.lanes.items odd)

pub returns-in-Ok-clause-fresh : goal.returns-in-Ok-clause-fresh
returns-in-Ok-clause-fresh c = odd_fresh c.in-Ok.lanes.items c.in-Ok.ensures

pub returns-in-Ok-clause-faultless : goal.returns-in-Ok-clause-faultless
returns-in-Ok-clause-faultless c = odd_faultless c.in-Ok.lanes.items c.in-Ok.ensures
