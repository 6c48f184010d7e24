use Rattle.std.proofs.Common.{rules, true}
use Rattle.sj_lane.proofs.MemRowsLemmas.{new_empty, new_fresh, new_joined, new_square}
use Rattle.sj_lane.proofs.mem_links.MemLinksLinks.make.Goals as goal

pub returns-in-Ok-clause-square : goal.returns-in-Ok-clause-square
returns-in-Ok-clause-square c = let news = c.in-Ok.ensures in (search (rules, news.size), new_square c.args.parties c.in-Ok.lanes.items news)

pub returns-in-Ok-clause-joined : goal.returns-in-Ok-clause-joined
returns-in-Ok-clause-joined c = new_joined c.args.parties c.in-Ok.lanes.items c.in-Ok.ensures

pub returns-in-Ok-clause-fresh : goal.returns-in-Ok-clause-fresh
returns-in-Ok-clause-fresh c = new_fresh c.args.parties c.in-Ok.lanes.items c.in-Ok.ensures true

pub returns-in-Ok-clause-empty : goal.returns-in-Ok-clause-empty
returns-in-Ok-clause-empty c = new_empty c.args.parties c.in-Ok.lanes.items c.in-Ok.ensures
