use Rattle.std.proofs.Common.{Option, option_map, subst, sym, arith}
use Rattle.std.proofs.lemmas.Result.{on_ok_weaker}
use Rattle.sj_table.specs.declared.table.Spot.{Spot}
use Rattle.sj_rules.specs.Record.{MainAt}
use Rattle.sj_node.specs.Taking.{TakesFrom}
use Rattle.sj_node.specs.Slots.{main_at}
use Rattle.sj_node.proofs.RowLemmas.{slotted}
use Rattle.sj_node.proofs.takes.take_on.Goals as goal

pub returns-clause-ok : goal.returns-clause-ok
returns-clause-ok c =
    let at = slotted c.args.end c.args.mains.now.items c.in-Some.at c.len.result c.index_mut-slot.result.now (omega (arith, c.len.ensures, c.args.mains.now.ok.0)) c.in-Some.ensures.slot c.index_mut-slot.ensures.value in
    on_ok_weaker c.take_from.result
    (λ from. record {
      left = option_map main_at c.take_from.new.slot;
      from = subst (λ (old : Option (MainAt Spot)). TakesFrom c.args.table.now c.args.msg old (option_map main_at c.take_from.new.slot)) (sym at.was) from;
      puts = at.puts c.take_from.new.slot;
    })
    c.take_from.ensures.ok
