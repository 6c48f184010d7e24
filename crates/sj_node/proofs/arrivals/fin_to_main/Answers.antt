use Rattle.std.proofs.Common.{arith}
use Rattle.std.proofs.lemmas.Result.{on_ok_weaker, on_err_weaker}
use Rattle.sj_node.proofs.RowLemmas.{put_row, same_row}
use Rattle.sj_node.proofs.arrivals.fin_to_main.Goals as goal

pub returns-in-Some-clause-ok : goal.returns-in-Some-clause-ok
returns-in-Some-clause-ok c =
    on_ok_weaker c.fin_to_slot.result
    (λ row. put_row c.args.from c.args.to _ c.args.mains.now.items c.in-Some.at c.len.result c.index_mut-slot.result.now c.fin_to_slot.new.slot (omega (arith, c.len.ensures, c.args.mains.now.ok.0)) c.in-Some.ensures.slot c.index_mut-slot.ensures.value row)
    c.fin_to_slot.ensures.ok

pub returns-in-Some-clause-err : goal.returns-in-Some-clause-err
returns-in-Some-clause-err c =
    on_err_weaker c.fin_to_slot.result
    (λ same. same_row c.args.to c.args.mains.now.items c.in-Some.at c.len.result c.index_mut-slot.result.now c.fin_to_slot.new.slot (omega (arith, c.len.ensures, c.args.mains.now.ok.0)) c.in-Some.ensures.slot c.index_mut-slot.ensures.value same)
    c.fin_to_slot.ensures.err
