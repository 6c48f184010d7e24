use Rattle.std.proofs.Common.{ap}
use Rattle.sj_check.specs.Held.{file_in}
use Rattle.sj_lang.specs.FileView.{file_of}
use Rattle.sj_streams.specs.Words.{words_at}
use Rattle.sj_remote_run.proofs.CaughtLemmas.{did_next}
use Rattle.sj_remote_run.proofs.catching.redo_came.Goals as goal

pub loop-words-preserved : goal.loop-words-preserved
loop-words-preserved c = record {
  did =
      did_next (file_of (file_in c.args.accepted.now)) c.args.entries.now c.loop-words.words-index c.words-item.result (words_at c.deref.result.now) c.args.node.now c.loop-words.node c.do_again.new.node
      c.loop-words-test.true c.words-item.is (ap words_at c.deref.ensures.value) c.loop-words.invariant.did c.in_ok-do_again.ensures.again;
  none = c.in_ok-do_again.ensures.none;
}
