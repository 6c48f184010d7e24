use Rattle.sj_lane.specs.Rows.{Grid}
use Rattle.std.proofs.Common.{length}
use Rattle.sj_lane.proofs.grids.row.Given as goal

abbrev pub invariant-loop-to : goal.invariant-loop-to
invariant-loop-to l = Grid (length l.initial.lanes.items) l.from l.to l.lanes.items
