use Rattle.sj_lane.specs.MemRows.{AreNewOuts}
use Rattle.sj_lane.proofs.rows.outs_of.Given as goal

abbrev pub invariant-loop : goal.invariant-loop
invariant-loop l = AreNewOuts l.counter l.outs.items
