use Rattle.std.proofs.Common.{◌≤◌}
use Rattle.sj_socket.specs.Rows.{Grid}
use Rattle.sj_socket.proofs.grid.all_lanes.Given as goal

abbrev pub invariant-loop-from : goal.invariant-loop-from
invariant-loop-from g l = Grid l.parties l.from 0 l.lanes.items × (l.from ≤ l.parties)
