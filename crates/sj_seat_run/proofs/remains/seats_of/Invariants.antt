use Rattle.std.proofs.Common.{◌≡◌, map, take}
use Rattle.std.specs.Prelude.{is_some}
use Rattle.sj_seat_run.proofs.remains.seats_of.Given as goal

-- the seats so far
abbrev pub invariant-loop-code : goal.invariant-loop-code
invariant-loop-code g l = l.seats.items ≡ map is_some (take l.code-index l.codes)
