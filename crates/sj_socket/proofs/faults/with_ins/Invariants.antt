use Rattle.std.proofs.Common.{◌≡◌, take}
use Rattle.sj_socket.specs.Counts.{capped_sum, met_in}
use Rattle.sj_socket.proofs.faults.with_ins.Given as goal

abbrev pub invariant-loop-lane : goal.invariant-loop-lane
invariant-loop-lane l = l.sum ≡ capped_sum l.before (met_in (take l.lane-index l.ins))
