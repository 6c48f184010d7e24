use Rattle.std.proofs.Common.{arith}
use Rattle.sj_node.proofs.PassLemmas.{passing_count, passing_goes}
use Rattle.sj_node.proofs.signals.pass_parked.Goals as goal

pub returns-in-Ok-clause-goes : goal.returns-in-Ok-clause-goes
returns-in-Ok-clause-goes c = passing_goes c.in-Ok.posts.items c.args.end.end.value c.args.from c.args.party c.args.taken c.in-Ok.ensures.posts

pub returns-in-Ok-clause-count : goal.returns-in-Ok-clause-count
returns-in-Ok-clause-count c =
    omega (arith, c.in-Ok.posts.ok.0, passing_count c.in-Ok.posts.items c.args.end.end.value c.args.from c.args.party c.args.taken c.in-Ok.ensures.posts)
