use Rattle.std.proofs.Common.{◌∙◌, ap, arith}
use Rattle.sj_rules.specs.Node.{put}
use Rattle.sj_node.specs.Slots.{olds_in}
use Rattle.sj_node.proofs.RowLemmas.{old_slotted}
use Rattle.sj_node.proofs.records.signalled_out.Goals as goal

pub returns-clause-puts : goal.returns-clause-puts
returns-clause-puts c =
    let at = old_slotted c.args.end c.args.olds.now.items c.in-Some.at c.len.result c.index_mut-slot.result.now (omega (arith, c.len.ensures, c.args.olds.now.ok.0)) c.in-Some.ensures.slot c.index_mut-slot.ensures.value in
    at.puts c.signalled_from.new.slot ∙ ap (λ r. put c.args.end r (olds_in c.args.olds.now.items)) c.signalled_from.ensures.none
