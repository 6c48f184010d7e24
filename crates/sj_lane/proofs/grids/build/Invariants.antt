use Rattle.sj_lane.specs.Rows.{Grid}
use Rattle.sj_lane.proofs.grids.build.Given as goal

abbrev pub invariant-loop : goal.invariant-loop
invariant-loop l = Grid l.counter 0 0 l.lanes.items

abbrev pub invariant-loop-from : goal.invariant-loop-from
invariant-loop-from l = Grid l.parties l.from 0 l.lanes.items
