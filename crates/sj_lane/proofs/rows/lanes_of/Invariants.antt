use Rattle.sj_lane.specs.MemRows.{AreNewRows}
use Rattle.sj_lane.proofs.rows.lanes_of.Given as goal

abbrev pub invariant-loop : goal.invariant-loop
invariant-loop l = AreNewRows l.parties l.counter l.lanes.items
