use Rattle.sj_forward.proofs.ArriveLemmas.{opens_so}
use Rattle.sj_forward.proofs.forwarder.Forwarder.offered.Goals as goal

pub returns-clause-ok : goal.returns-clause-ok
returns-clause-ok c =
    opens_so c.args.self.now c.make_place.new.ends c.begin.new.ends c.offer.new.offers c.args.from c.args.sess c.requires c.make_place.ensures.same c.begin.ensures c.in_ok-offer.ensures.ok
