use Rattle.std.proofs.Common.{ap}
use Rattle.sj_check.specs.Held.{file_in}
use Rattle.sj_lang.specs.FileView.{file_of}
use Rattle.sj_streams.specs.Words.{words_at}
use Rattle.sj_remote_seat.proofs.CaughtLemmas.{did_next}
use Rattle.sj_remote_seat.proofs.StepsLemmas.{steps_then}
use Rattle.sj_remote_seat.proofs.catching.redo_came.Goals as goal

pub loop-words-preserved : goal.loop-words-preserved
loop-words-preserved g c = record {
  again =
      did_next (file_of (file_in c.args.accepted.now)) c.args.entries.now c.loop-words.words-index c.words-item.result (words_at c.deref.result.now) c.args.seat c.loop-words.going c.in_ok-next.next
      c.loop-words-test.true c.words-item.is (ap words_at c.deref.ensures.value) c.loop-words.invariant.again c.in_ok-next.ensures.again;
  clear = c.in_ok-next.ensures.clear;
  none = c.in_ok-next.ensures.none;
  steps = steps_then g.C.Code.step c.loop-words.invariant.steps c.in_ok-next.ensures.steps;
}
