use Rattle.std.proofs.Common.{◌≡◌, [], map, take}
use Rattle.sj_check.specs.Held.{file_in}
use Rattle.sj_lang.specs.FileView.{file_of}
use Rattle.sj_node.specs.Node.{log_of}
use Rattle.sj_seat.specs.Views.{node_of}
use Rattle.sj_streams.specs.Words.{words_at}
use Rattle.sj_remote_seat.specs.Caught.{DidAll}
use Rattle.sj_remote_seat.specs.Steps.{Steps}
use Rattle.sj_remote_seat.specs.Turns.{IsClear}
use Rattle.sj_remote_seat.proofs.catching.redo_came.Given as goal

-- the entries before that one were done again
abbrev pub invariant-loop-words : goal.invariant-loop-words
invariant-loop-words g l = record {
  again : DidAll (file_of (file_in l.accepted)) (map (λ e. words_at e.items) (take l.words-index l.entries)) l.fn.seat l.going;
  clear : IsClear l.going;
  none : log_of (node_of l.going) ≡ [];
  steps : Steps g.C.Code.step l.fn.code l.code;
}
