use Rattle.std.proofs.Common.{◌≡◌, ℕ, ◌<◌, Some}
use Rattle.sj_lane.specs.Square.{out_at, in_at}
use Rattle.sj_lane.specs.declared.ends.RingOut.{RingOut}
use Rattle.sj_lane.specs.declared.ends.RingIn.{RingIn}
use Rattle.sj_lane.specs.Rings.{Each2, LanesKept, Fed}
use Rattle.sj_lane.proofs.columns.settle.Given as goal

abbrev pub invariant-loop-to : goal.invariant-loop-to
invariant-loop-to l = Each2 LanesKept l.initial.lanes.items l.lanes.items × ((p q : ℕ) (o : RingOut) (i : RingIn) → q < l.to → out_at l.initial.lanes.items p q ≡ Some o → in_at l.initial.lanes.items p q ≡ Some i → Fed o i)
