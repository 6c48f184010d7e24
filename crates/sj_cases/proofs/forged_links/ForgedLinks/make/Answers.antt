use Rattle.std.proofs.Common.{rules, ap, length}
use Rattle.sj_cases.proofs.TwoLemmas.{two_fresh, two_square}
use Rattle.sj_cases.proofs.forged_links.ForgedLinks.make.Goals as goal

pub returns-in-Ok-clause-square : goal.returns-in-Ok-clause-square
returns-in-Ok-clause-square c = let two = c.in-Ok.ensures in let all = ap length two.all in (search (rules, all), two_square c.in-Ok.lanes.items two)

pub returns-in-Ok-clause-fresh : goal.returns-in-Ok-clause-fresh
returns-in-Ok-clause-fresh c = two_fresh c.in-Ok.lanes.items c.in-Ok.ensures
