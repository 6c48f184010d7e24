use Rattle.std.proofs.Common.{◌<◌}
use Rattle.sj_table.specs.declared.table.Spot.{Spot}
use Rattle.sj_seat.specs.Places.{IsSpotOf}
use Rattle.sj_seat.proofs.places.spot_of.Given as goal

abbrev pub invariant-loop-node : goal.invariant-loop-node
invariant-loop-node l = (s : Spot) → s.node < l.node → IsSpotOf l.table l.place s → ⊥
