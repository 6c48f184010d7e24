use Rattle.std.proofs.Common.{◌≡◌, [], take}
use Rattle.sj_check.specs.Held.{file_in}
use Rattle.sj_lang.specs.FileView.{file_of}
use Rattle.sj_node.specs.Node.{log_of}
use Rattle.sj_remote_run.specs.Caught.{entries_in}
use Rattle.sj_seat.specs.Views.{node_of}
use Rattle.sj_remote_seat.specs.Caught.{DidAll}
use Rattle.sj_remote_seat.specs.Steps.{Steps}
use Rattle.sj_remote_seat.specs.Turns.{IsClear}
use Rattle.sj_remote_seat.proofs.catching.catch_up.Given as goal

-- the entries that came before were done again
abbrev pub invariant-loop-came : goal.invariant-loop-came
invariant-loop-came g l = record {
  again : DidAll (file_of (file_in l.accepted)) (entries_in (take l.came-index l.own)) l.fn.seat l.going;
  clear : IsClear l.going;
  none : log_of (node_of l.going) ≡ [];
  steps : Steps g.C.Code.step l.fn.code l.code;
}
