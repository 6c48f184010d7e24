use Rattle.sj_table.proofs.MeetLemmas.{goes_on, rows}
use Rattle.sj_table.proofs.comparisons.node_stands_for.Goals as goal

pub returns-then-not-meet_item : goal.returns-then-not-meet_item
returns-then-not-meet_item c =
    rows _ _ c.args.items.now c.loop-item.item-index c.in-Some.first.now c.item-item.result c.loop-item-test.true c.item-item.is c.in-Some.ensures.item c.meet_item.result c.meet_item.ensures _ c.loop-item.invariant c.if-not-meet_item.true

pub loop-item-preserved : goal.loop-item-preserved
loop-item-preserved c =
    goes_on _ _ c.args.items.now c.loop-item.item-index c.in-Some.first.now c.item-item.result c.loop-item-test.true c.item-item.is c.in-Some.ensures.item c.meet_item.result c.meet_item.ensures _ c.loop-item.invariant c.if-not-meet_item.false
