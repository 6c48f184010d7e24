use Rattle.std.proofs.Common.{Option, option_map, map, subst, sym, arith}
use Rattle.std.proofs.lemmas.Result.{IfOk-weaker}
use Rattle.sj_table.specs.declared.table.Spot.{Spot}
use Rattle.sj_rules.specs.Record.{OldAt}
use Rattle.sj_end.specs.Views.{post_at}
use Rattle.sj_node.specs.Keeping.{PassesFrom}
use Rattle.sj_node.specs.Slots.{old_at}
use Rattle.sj_node.proofs.RowLemmas.{old_slotted}
use Rattle.sj_node.proofs.records.signal_to_parked.Goals as goal

pub returns-clause-ok : goal.returns-clause-ok
returns-clause-ok c =
    let at = old_slotted c.args.to c.args.olds.now.items c.in-Some.at c.len.result c.index_mut-slot.result.now (omega (arith, c.len.ensures, c.args.olds.now.ok.0)) c.in-Some.ensures.slot c.index_mut-slot.ensures.value in
    IfOk-weaker c.pass_slot.result _ _
    (λ r from. record {
      left = option_map old_at c.pass_slot.new.slot;
      from = subst (λ (old : Option (OldAt Spot)). PassesFrom c.args.from c.args.conn c.args.party c.args.taken old (option_map old_at c.pass_slot.new.slot) (map post_at r.items)) (sym at.was) from;
      puts = at.puts c.pass_slot.new.slot;
    })
    c.pass_slot.ensures.ok
