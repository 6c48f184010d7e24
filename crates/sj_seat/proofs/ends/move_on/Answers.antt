use Rattle.std.proofs.Common.{arith, length, ◌<◌}
use Rattle.sj_seat.proofs.MovedLemmas.{moved_all, moved_next, none_moved}
use Rattle.sj_seat.proofs.ends.move_on.Goals as goal

pub loop-at-init : goal.loop-at-init
loop-at-init c = none_moved c.args.table.now c.args.end c.args.way c.args.msg c.args.ends.now

pub loop-at-preserved : goal.loop-at-preserved
loop-at-preserved c =
    let h = c.loop-at.invariant in
    let within : c.loop-at.at < length c.loop-at.ends = omega (arith, c.loop-at-test.true, c.loop-at.auto.ends) in
    moved_next c.args.table.now c.args.end c.args.way c.args.msg c.loop-at.at c.args.ends.now c.loop-at.ends c.moved_end-next.result within h
    c.moved_end-next.ensures

pub returns : goal.returns
returns c = moved_all c.args.table.now c.args.end c.args.way c.args.msg c.loop-at.at c.args.ends.now c.loop-at.ends (omega (arith, c.loop-at-test.false, c.loop-at.auto.ends)) c.loop-at.invariant
