use Rattle.std.proofs.Common.{rules}
use Rattle.uses.proofs.DequeLemmas.{new_fresh, new_square}
use Rattle.uses.proofs.deques.DequeLinksLinks.make.Goals as goal

pub returns-in-Ok-clause-square : goal.returns-in-Ok-clause-square
returns-in-Ok-clause-square c = let news = c.in-Ok.ensures in (search (rules, news.size), new_square c.args.parties c.in-Ok.lanes.items news)

pub returns-in-Ok-clause-fresh : goal.returns-in-Ok-clause-fresh
returns-in-Ok-clause-fresh c = new_fresh c.args.parties c.in-Ok.lanes.items c.in-Ok.ensures
