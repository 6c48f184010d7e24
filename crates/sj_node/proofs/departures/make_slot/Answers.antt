use Rattle.std.proofs.Common.{ap, ◌∙◌}
use Rattle.sj_node.specs.Slots.{old_at, olds_in}
use Rattle.sj_node.proofs.SlotLemmas.{grown-same}
use Rattle.sj_node.proofs.departures.make_slot.Goals as goal

pub loop-olds-preserved : goal.loop-olds-preserved
loop-olds-preserved c = ap olds_in c.in_ok-push.ensures.items ∙ grown-same old_at c.loop-olds.olds.items ∙ c.loop-olds.invariant
