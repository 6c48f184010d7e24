use Rattle.std.proofs.Common.{rules, None}
use Rattle.sj_socket.proofs.NewLemmas.{new_faultless, new_fresh, new_idle, new_joined, new_square}
use Rattle.sj_socket.proofs.links.SocketLinksLinks.make.Goals as goal

pub returns-in-Ok-clause-square : goal.returns-in-Ok-clause-square
returns-in-Ok-clause-square g c = let news = c.in-Ok.ensures in (search (rules, news.size), new_square c.args.parties c.in-Ok.lanes.items news)

pub returns-in-Ok-clause-fresh : goal.returns-in-Ok-clause-fresh
returns-in-Ok-clause-fresh g c = new_fresh c.args.parties c.in-Ok.lanes.items c.in-Ok.ensures (λ o. None) (λ i. None)

pub returns-in-Ok-clause-faultless : goal.returns-in-Ok-clause-faultless
returns-in-Ok-clause-faultless g c = new_faultless c.args.parties c.in-Ok.lanes.items c.in-Ok.ensures

pub returns-in-Ok-clause-joined : goal.returns-in-Ok-clause-joined
returns-in-Ok-clause-joined g c = new_joined c.args.parties c.in-Ok.lanes.items c.in-Ok.ensures

pub returns-in-Ok-clause-links : goal.returns-in-Ok-clause-links
returns-in-Ok-clause-links g c = let news = c.in-Ok.ensures in news.links

pub returns-in-Ok-clause-idle : goal.returns-in-Ok-clause-idle
returns-in-Ok-clause-idle g c = new_idle c.args.parties c.in-Ok.lanes.items c.in-Ok.ensures
