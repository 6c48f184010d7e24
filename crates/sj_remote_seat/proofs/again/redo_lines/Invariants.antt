use Rattle.std.proofs.Common.{◌≡◌, []}
use Rattle.sj_node.specs.Node.{log_of}
use Rattle.sj_seat.specs.Views.{node_of}
use Rattle.sj_work.specs.Laned.{entries_of}
use Rattle.sj_remote_seat.specs.Steps.{Steps}
use Rattle.sj_remote_seat.specs.Turns.{Sat}
use Rattle.sj_remote_seat.proofs.again.redo_lines.Given as goal

-- what the party did so far
abbrev pub invariant-loop-line : goal.invariant-loop-line
invariant-loop-line g l = record { sat : Sat l.fn.seat l.going (entries_of l.made.items); none : log_of (node_of l.going) ≡ []; steps : Steps g.C.Code.step l.fn.code l.code }
