use Rattle.std.proofs.Common.{◌≡◌, drop}
use Rattle.sj_seat.specs.Holding.{spot_held}
use Rattle.sj_seat.proofs.ends.spot_held.Given as goal

abbrev pub invariant-loop-held : goal.invariant-loop-held
invariant-loop-held l = spot_held (drop l.held-index l.ends) l.end ≡ spot_held l.ends l.end
