use Rattle.sj_lane.specs.MemRows.{AreNewIns}
use Rattle.sj_lane.proofs.rows.ins_of.Given as goal

abbrev pub invariant-loop : goal.invariant-loop
invariant-loop l = AreNewIns l.counter l.ins.items
