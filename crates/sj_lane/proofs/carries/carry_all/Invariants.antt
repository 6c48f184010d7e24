use Rattle.sj_lane.specs.MemCarry.{AreMovedUpTo}
use Rattle.sj_lane.proofs.CarryingLemmas.{Carried}
use Rattle.sj_lane.proofs.carries.carry_all.Given as goal

-- the links from the first parties are moved
abbrev pub invariant-loop-from : goal.invariant-loop-from
invariant-loop-from l = record {
  carried : Carried l.fn.lanes l.lanes;
  moved : AreMovedUpTo l.from 0 l.fn.lanes l.lanes;
}
