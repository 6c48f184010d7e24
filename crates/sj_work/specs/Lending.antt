-- A worker's lanes, lent out: what is left in them is what the worker then has.
use Rattle.std.specs.Borrow.{Lends, MutBor, Fml}
use denote.RattleType.{RattleType}
use Rattle.sj_lane.specs.contracts.lane.Lanes as lanes
use Rattle.sj_work.specs.contracts.worker.Worker as worker
use Rattle.sj_work.specs.Views.{with_lanes}

abbrev pub LendsLanes : (O I : RattleType) → MutBor (worker.the_row O I).Denot → MutBor (lanes.the_row O I).Denot → Fml
LendsLanes O I w r = Lends (worker.the_row O I) (lanes.the_row O I) w r (with_lanes w.now)
