use Rattle.sj_lane.specs.Rings.{Each2, InKept, OutsKept, ColumnFed}
use Rattle.sj_lane.proofs.columns.settle_column.Given as goal

abbrev pub invariant-loop-from : goal.invariant-loop-from
invariant-loop-from l = Each2 OutsKept l.fn.lanes.items l.lanes.items × Each2 InKept l.fn.column.items l.column.items × ColumnFed l.fn.lanes.items l.fn.column.items l.to l.from
