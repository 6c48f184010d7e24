use Rattle.sj_check.specs.Held.{file_in}
use Rattle.sj_lang.specs.FileView.{file_of}
use Rattle.sj_remote_run.proofs.CaughtLemmas.{did_came}
use Rattle.sj_remote_run.proofs.catching.redo_all.Goals as goal

pub loop-came-preserved : goal.loop-came-preserved
loop-came-preserved c = record {
  did =
      did_came (file_of (file_in c.args.accepted.now)) c.args.own.now c.loop-came.came-index c.came-item.result c.deref.result.now c.args.node.now c.loop-came.node c.redo_came.new.node
      c.loop-came-test.true c.came-item.is c.deref.ensures.value c.loop-came.invariant.did c.in_ok-redo_came.ensures.did;
  none = c.in_ok-redo_came.ensures.none;
}
