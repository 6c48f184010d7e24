use Rattle.sj_forward.proofs.WorldLemmas.{forwarded, parties_there}
use Rattle.sj_forward.proofs.forward.ForwardWorld.start.Goals as goal

pub returns-clause-run : goal.returns-clause-run
returns-clause-run c = forwarded c.in_ok-forwarder_world.forwarder_world c.in_ok-forwarder_world.ensures.reached

pub returns-clause-parties : goal.returns-clause-parties
returns-clause-parties c = parties_there c.in_ok-forwarder_world.forwarder_world c.in_ok-forwarder_world.ensures.reached
