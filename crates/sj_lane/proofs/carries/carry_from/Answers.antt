use Rattle.sj_lane.specs.Mem.{frames_popped, frames_pushed}
use Rattle.sj_lane.proofs.CarryingLemmas.{lists_same}
use Rattle.sj_lane.proofs.CarryLemmas.{carried_later}
use Rattle.sj_lane.proofs.MovedLemmas.{row_more, row_none}
use Rattle.sj_lane.proofs.carries.carry_from.Goals as goal

pub loop-to-init : goal.loop-to-init
loop-to-init c = record {
  carried = record { square = c.requires.square; joined = c.requires.joined; lists = lists_same frames_pushed frames_popped _ _ c.args.lanes.now };
  row = row_none c.args.lanes.now c.args.from;
}

pub loop-to-preserved : goal.loop-to-preserved
loop-to-preserved c =
    let was = c.loop-to.invariant in
    let now = c.in_default.ensures in
    record {
      carried = carried_later c.args.lanes.now c.loop-to.lanes c.carry_between.new.lanes was.carried.lists now.square now.joined now.lists;
      row = row_more c.args.lanes.now c.loop-to.lanes c.carry_between.new.lanes c.args.from c.loop-to.to was.row now.moved;
    }
