use Rattle.std.proofs.Common.{length, arith}
use Rattle.sj_lane.specs.Mem.{frames_popped, frames_pushed}
use Rattle.sj_lane.proofs.CarryingLemmas.{lists_same}
use Rattle.sj_lane.proofs.CarryLemmas.{carried_later}
use Rattle.sj_lane.proofs.MovedLemmas.{all_more, all_none, all_short}
use Rattle.sj_lane.proofs.carries.carry_all.Goals as goal

pub loop-from-init : goal.loop-from-init
loop-from-init c = record {
  carried = record { square = c.requires.square; joined = c.requires.joined; lists = lists_same frames_pushed frames_popped _ _ c.args.lanes.now };
  moved = all_none c.args.lanes.now;
}

pub loop-from-preserved : goal.loop-from-preserved
loop-from-preserved c =
    let was = c.loop-from.invariant in
    let now = c.in_default.ensures in
    record {
      carried = carried_later c.args.lanes.now c.loop-from.lanes c.carry_from.new.lanes was.carried.lists now.square now.joined now.lists;
      moved = all_more c.args.lanes.now c.loop-from.lanes c.carry_from.new.lanes c.loop-from.from was.moved (length c.loop-from.lanes) (omega arith) now.moved;
    }

pub returns-in-Err-clause-short : goal.returns-in-Err-clause-short
returns-in-Err-clause-short c =
    let short = c.in-Err.ensures.short in
    (c.loop-from.from, short.0, all_short c.args.lanes.now c.loop-from.lanes c.carry_from.new.lanes c.loop-from.from c.loop-from.invariant.moved short.0 short.1)
