use Rattle.std.proofs.Common.{Some, arith}
use Rattle.sj_node.specs.declared.slots.Main.TheVariants as mains
use Rattle.sj_node.specs.Slots.{main_at}
use Rattle.sj_node.proofs.SlotLemmas.{put-set}
use Rattle.sj_node.proofs.handovers.put_held.Goals as goal

pub returns : goal.returns
returns c = put-set main_at c.args.mains.now.items c.args.end (Some (mains.Held c.args.held)) c.requires.side (omega (arith, c.requires.slot, c.args.mains.now.ok.0))
