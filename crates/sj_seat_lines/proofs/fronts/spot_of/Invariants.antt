use Rattle.std.proofs.Common.{◌≡◌, drop}
use Rattle.sj_seat.specs.Holding.{ends_at}
use Rattle.sj_seat_laws.specs.Calls.{place_held}
use Rattle.sj_seat_lines.proofs.fronts.spot_of.Given as goal

abbrev pub invariant-loop-held : goal.invariant-loop-held
invariant-loop-held l = place_held (ends_at l.seat.table.now (drop l.held-index l.seat.ends.now)) l.end ≡ place_held (ends_at l.seat.table.now l.seat.ends.now) l.end
