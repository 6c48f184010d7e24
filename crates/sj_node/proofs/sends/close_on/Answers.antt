use Rattle.std.proofs.Common.{Option, option_map, subst, sym, arith}
use Rattle.std.proofs.lemmas.Result.{IfOk-weaker}
use Rattle.sj_table.specs.declared.table.Spot.{Spot}
use Rattle.sj_rules.specs.Record.{MainAt}
use Rattle.sj_end.specs.Views.{post_at}
use Rattle.sj_node.specs.Sending.{ClosesFrom}
use Rattle.sj_node.specs.Slots.{main_at}
use Rattle.sj_node.proofs.RowLemmas.{slotted}
use Rattle.sj_node.proofs.sends.close_on.Goals as goal

pub returns-clause-ok : goal.returns-clause-ok
returns-clause-ok c =
    let at = slotted c.args.end c.args.mains.now.items c.in-Some.at c.len.result c.index_mut-slot.result.now (omega (arith, c.len.ensures, c.args.mains.now.ok.0)) c.in-Some.ensures.slot c.index_mut-slot.ensures.value in
    IfOk-weaker c.close_from.result _ _
    (λ p from. record {
      left = option_map main_at c.close_from.new.slot;
      from = subst (λ (old : Option (MainAt Spot)). ClosesFrom c.args.table.now old (option_map main_at c.close_from.new.slot) (post_at p)) (sym at.was) from;
      puts = at.puts c.close_from.new.slot;
    })
    c.close_from.ensures.ok
