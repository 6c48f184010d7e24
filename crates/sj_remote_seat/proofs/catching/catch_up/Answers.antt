use Rattle.sj_check.specs.Held.{file_in}
use Rattle.sj_lang.specs.FileView.{file_of}
use Rattle.sj_remote_seat.proofs.CaughtLemmas.{did_came}
use Rattle.sj_remote_seat.proofs.StepsLemmas.{steps_then}
use Rattle.sj_remote_seat.proofs.catching.catch_up.Goals as goal

pub loop-came-preserved : goal.loop-came-preserved
loop-came-preserved g c = record {
  again =
      did_came (file_of (file_in c.args.accepted.now)) c.args.own.now c.loop-came.came-index c.came-item.result c.deref.result.now c.args.seat c.loop-came.going c.in_ok-next.next
      c.loop-came-test.true c.came-item.is c.deref.ensures.value c.loop-came.invariant.again c.in_ok-next.ensures.again;
  clear = c.in_ok-next.ensures.clear;
  none = c.in_ok-next.ensures.none;
  steps = steps_then g.C.Code.step c.loop-came.invariant.steps c.in_ok-next.ensures.steps;
}
