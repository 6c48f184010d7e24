use Rattle.sj_forward.proofs.ArriveLemmas.{claimed_so}
use Rattle.sj_forward.proofs.forwarder.Forwarder.claimed.Goals as goal

pub returns-clause-ok : goal.returns-clause-ok
returns-clause-ok c =
    claimed_so c.args.self.now c.pass_on-messages.new.ends c.make_room.new.outs c.put_all.new.outs c.args.of c.args.hop c.args.from _ c.requires c.pass_on-messages.ensures.waited c.pass_on-messages.ensures.passes
    c.make_room.ensures.same c.put_all.ensures
