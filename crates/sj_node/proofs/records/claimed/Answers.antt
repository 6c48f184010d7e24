use Rattle.std.proofs.Common.{Some, ◌∙◌, arith}
use Rattle.sj_rules.specs.Node.{put}
use Rattle.sj_rules.specs.Record.{Signalled}
use Rattle.sj_node.specs.declared.slots.Old.TheVariants as olds
use Rattle.sj_node.specs.Slots.{olds_in}
use Rattle.sj_node.proofs.RowLemmas.{old_slotted}
use Rattle.sj_node.proofs.records.claimed.Goals as goal

pub returns : goal.returns
returns c =
    let at = old_slotted c.args.end c.args.olds.now.items c.in-Some.at c.len.result c.index_mut-slot.result.now (omega (arith, c.len.ensures, c.args.olds.now.ok.0)) c.in-Some.ensures.slot c.index_mut-slot.ensures.value in
    record {
      was = c.parked_out-parked.result.end.value;
      there = at.was ∙ c.parked_out-parked.ensures;
      puts = at.puts (Some (olds.Signalled c.signal-signalled.result.0))
          ∙ (λ i. put c.args.end (Some (Signalled (c.signal-signalled.ensures.end i) (c.signal-signalled.ensures.to i))) (olds_in c.args.olds.now.items));
      post = c.signal-signalled.ensures.post;
    }
