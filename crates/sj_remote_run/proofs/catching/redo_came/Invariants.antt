use Rattle.std.proofs.Common.{map, take}
use Rattle.sj_check.specs.Held.{file_in}
use Rattle.sj_lang.specs.FileView.{file_of}
use Rattle.sj_streams.specs.Words.{words_at}
use Rattle.sj_remote_run.specs.Caught.{DidAll}
use Rattle.sj_remote_run.specs.Posts.{HasNone}
use Rattle.sj_remote_run.proofs.catching.redo_came.Given as goal

-- the entries before that one were done again
abbrev pub invariant-loop-words : goal.invariant-loop-words
invariant-loop-words l = record {
  did : DidAll (file_of (file_in l.accepted)) (map (λ e. words_at e.items) (take l.words-index l.entries)) l.fn.node l.node;
  none : HasNone l.lanes.outs.items l.node;
}
