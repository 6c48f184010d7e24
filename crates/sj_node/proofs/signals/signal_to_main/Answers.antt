use Rattle.std.proofs.Common.{◌≡◌, Some, Option, option_map, map, subst, sym, arith, max}
use Rattle.std.proofs.lemmas.Result.{IfOk-weaker}
use Rattle.sj_table.specs.declared.table.Spot.{Spot}
use Rattle.sj_rules.specs.Record.{MainAt, Signal}
use Rattle.sj_end.specs.Views.{post_at}
use Rattle.sj_node.specs.Arriving.{main_row}
use Rattle.sj_node.specs.Slots.{main_at}
use Rattle.sj_node.proofs.RowLemmas.{slotted}
use Rattle.sj_node.proofs.signals.signal_to_main.Goals as goal

pub returns-clause-ok : goal.returns-clause-ok
returns-clause-ok c =
    let at = slotted c.args.to c.args.mains.now.items c.in-Some.at c.len.result c.index_mut-slot.result.now (omega (arith, c.len.ensures, c.args.mains.now.ok.0)) c.in-Some.ensures.slot c.index_mut-slot.ensures.value in
    IfOk-weaker c.signal_to_slot.result _ _
    (λ r row. record {
      left = option_map main_at c.signal_to_slot.new.slot;
      row = subst (λ (old : Option (MainAt Spot)). main_row max c.args.from (Signal c.args.to c.args.conn c.args.party c.args.taken) old ≡ Some (record { state = option_map main_at c.signal_to_slot.new.slot; posts = map post_at r.items })) (sym at.was) row;
      puts = at.puts c.signal_to_slot.new.slot;
    })
    c.signal_to_slot.ensures.ok
