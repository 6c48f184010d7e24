use Rattle.std.proofs.Common.{◌≡◌, ◌<◌, true}
use Rattle.sj_table.specs.declared.table.Spot.{Spot}
use Rattle.sj_table.specs.Spots.{place_in}
use Rattle.sj_seat_laws.specs.Guards.{carried_next}
use Rattle.sj_seat.specs.Fronts.{takes_end}
use Rattle.sj_seat.specs.Places.{LacksPlace}
use Rattle.sj_seat.proofs.places.carries_places.Given as goal

abbrev pub invariant-loop-node : goal.invariant-loop-node
invariant-loop-node l = (s : Spot) → s.node < l.node → takes_end (place_in l.table s) ≡ true → LacksPlace l.table (carried_next (place_in l.table s)) → ⊥
