use Rattle.std.proofs.Common.{◌∙◌, ap, arith}
use Rattle.sj_rules.specs.Node.{put}
use Rattle.sj_node.specs.Slots.{mains_in}
use Rattle.sj_node.proofs.RowLemmas.{slotted}
use Rattle.sj_node.proofs.departures.take_out.Goals as goal

pub returns-clause-puts : goal.returns-clause-puts
returns-clause-puts c =
    let at = slotted c.args.end c.args.mains.now.items c.in-Some.at c.len.result c.index_mut-slot.result.now (omega (arith, c.len.ensures, c.args.mains.now.ok.0)) c.in-Some.ensures.slot c.index_mut-slot.ensures.value in
    at.puts c.held_out.new.slot ∙ ap (λ r. put c.args.end r (mains_in c.args.mains.now.items)) c.held_out.ensures.none
