use Rattle.std.proofs.Common.{◌≡◌, drop}
use Rattle.sj_seat.specs.Opened.{spot_opened}
use Rattle.sj_seat.proofs.openings.spot_opened.Given as goal

abbrev pub invariant-loop-opening : goal.invariant-loop-opening
invariant-loop-opening l = spot_opened (drop l.opening-index l.openings) l.party l.protocol ≡ spot_opened l.openings l.party l.protocol
