use Rattle.std.proofs.Common.{ap, ◌∙◌}
use Rattle.sj_node.specs.Slots.{main_at, mains_in}
use Rattle.sj_node.proofs.SlotLemmas.{grown-same}
use Rattle.sj_node.proofs.departures.make_main_slot.Goals as goal

pub loop-mains-preserved : goal.loop-mains-preserved
loop-mains-preserved c = ap mains_in c.in_ok-push.ensures.items ∙ grown-same main_at c.loop-mains.mains.items ∙ c.loop-mains.invariant
