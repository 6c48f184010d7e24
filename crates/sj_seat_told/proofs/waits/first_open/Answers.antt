use Rattle.std.proofs.Common.{arith}
use Rattle.sj_seat_told.proofs.FirstLemmas.{first_none}
use Rattle.sj_seat_told.proofs.waits.first_open.Goals as goal

pub loop-at-init : goal.loop-at-init
loop-at-init c = record { within = omega arith; first = first_none c.args.table.now c.args.ends.now _ (omega arith) }
