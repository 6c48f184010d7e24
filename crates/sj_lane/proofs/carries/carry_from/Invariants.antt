use Rattle.sj_lane.specs.MemCarry.{RowMoved}
use Rattle.sj_lane.proofs.CarryingLemmas.{Carried}
use Rattle.sj_lane.proofs.carries.carry_from.Given as goal

-- the links to the first parties are moved
abbrev pub invariant-loop-to : goal.invariant-loop-to
invariant-loop-to l = record {
  carried : Carried l.fn.lanes l.lanes;
  row : RowMoved l.from l.to l.fn.lanes l.lanes;
}
