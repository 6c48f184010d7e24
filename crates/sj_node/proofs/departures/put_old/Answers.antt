use Rattle.std.proofs.Common.{Some, arith}
use Rattle.sj_node.specs.Slots.{old_at}
use Rattle.sj_node.proofs.SlotLemmas.{put-set}
use Rattle.sj_node.proofs.departures.put_old.Goals as goal

pub returns : goal.returns
returns c = put-set old_at c.args.olds.now.items c.args.end (Some c.args.old) c.requires.side (omega (arith, c.requires.slot, c.args.olds.now.ok.0))
