use Rattle.std.proofs.Common.{arith}
use Rattle.sj_seat_told.proofs.SessionLemmas.{all_below, none_below, one_below}
use Rattle.sj_seat_told.proofs.openings.session_count.Goals as goal

pub loop-session-init : goal.loop-session-init
loop-session-init c = none_below c.args.opened.now 0

pub loop-session-preserved : goal.loop-session-preserved
loop-session-preserved c =
    one_below c.args.opened.now c.loop-session.session-index c.loop-session.count c.count_with-count.result _ c.loop-session-test.true c.loop-session.invariant c.count_with-count.ensures.more
    c.count_with-count.ensures.below

pub returns : goal.returns
returns c = all_below c.args.opened.now c.loop-session.session-index c.loop-session.count (omega (arith, c.loop-session-test.false)) c.loop-session.invariant
