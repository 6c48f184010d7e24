use Rattle.std.proofs.Common.{take}
use Rattle.sj_check.specs.Held.{file_in}
use Rattle.sj_lang.specs.FileView.{file_of}
use Rattle.sj_remote_run.specs.Caught.{DidAll, entries_in}
use Rattle.sj_remote_run.specs.Posts.{HasNone}
use Rattle.sj_remote_run.proofs.catching.redo_all.Given as goal

-- the entries that came before were done again
abbrev pub invariant-loop-came : goal.invariant-loop-came
invariant-loop-came l = record {
  did : DidAll (file_of (file_in l.accepted)) (entries_in (take l.came-index l.own)) l.fn.node l.node;
  none : HasNone l.lanes.outs.items l.node;
}
