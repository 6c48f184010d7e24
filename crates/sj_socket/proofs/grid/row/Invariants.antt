use Rattle.std.proofs.Common.{length}
use Rattle.sj_socket.specs.Joined.{IsRowLinked}
use Rattle.sj_socket.specs.Rows.{AreNewOuts, Grid}
use Rattle.sj_socket.proofs.grid.row.Given as goal

abbrev pub invariant-loop-to : goal.invariant-loop-to
invariant-loop-to g l = Grid (length l.initial.lanes.items) l.from l.to l.lanes.items × AreNewOuts l.to l.outs.items × IsRowLinked l.from l.outs.items l.lanes.items
