use Rattle.sj_forward.proofs.TurnLemmas.{plain_party}
use Rattle.sj_forward.proofs.forwarder_world.ForwarderWorld.act.Goals as goal

pub wants-want-requires : goal.wants-want-requires
wants-want-requires c = plain_party c.args.self.now c.requires.reached c.args.party c.requires.there
