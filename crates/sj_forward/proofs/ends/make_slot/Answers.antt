use Rattle.std.proofs.Common.{subst, sym, arith}
use Rattle.sj_forward.specs.Ends.{EndsStay, Rows}
use Rattle.sj_forward.proofs.RoomLemmas.{ends_both, row_more, row_stays, side_there}
use Rattle.sj_forward.proofs.ResultLemmas.{on_ok}
use Rattle.sj_forward.proofs.ends.make_slot.Goals as goal

pub loop-ends-preserved : goal.loop-ends-preserved
loop-ends-preserved c =
    ends_both _ c.loop-ends.ends.items _ c.loop-ends.invariant
    (subst (λ (rows : Rows). EndsStay c.loop-ends.ends.items rows) (sym c.in_ok-push.ensures.items) (row_more c.loop-ends.ends.items c.new.result c.new.ensures.items))

pub returns-clause-same : goal.returns-clause-same
returns-clause-same c =
    ends_both _ c.loop-ends.ends.items _ c.loop-ends.invariant
    (row_stays c.loop-ends.ends.items c.args.end.sess c.index_mut-row.result.now c.make_side.new.row (omega (arith, c.loop-ends-test.false, c.len.ensures, c.loop-ends.ends.ok.0)) c.index_mut-row.ensures.value
    c.make_side.ensures.same)

pub returns-clause-there : goal.returns-clause-there
returns-clause-there c =
    on_ok c.make_side.result
    (λ within. side_there c.loop-ends.ends.items c.args.end c.make_side.new.row (omega (arith, c.loop-ends-test.false, c.len.ensures, c.loop-ends.ends.ok.0)) (omega (arith, within, c.make_side.new.row.ok.0)))
    c.make_side.ensures.there
