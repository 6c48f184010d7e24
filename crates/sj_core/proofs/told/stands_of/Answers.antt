use Rattle.std.proofs.Common.{◌∙◌, ap, arith}
use Rattle.sj_core.specs.ToldWorld.{stand_seen}
use Rattle.sj_core.proofs.ToldWorldLemmas.{stand_next, stands_over}
use Rattle.sj_core.proofs.told.stands_of.Goals as goal

pub loop-node-preserved : goal.loop-node-preserved
loop-node-preserved c =
    stand_next c.args.nodes.now c.loop-node.node-index c.node-item.result c.loop-node.stands.items _ c.stand_of.result c.loop-node-test.true c.loop-node.invariant
    (c.stand_of.ensures ∙ ap stand_seen c.node-item.is) c.in_ok-push.ensures.items

pub returns : goal.returns
returns c = stands_over c.args.nodes.now c.loop-node.node-index c.loop-node.stands.items (omega (arith, c.loop-node-test.false)) c.loop-node.invariant
