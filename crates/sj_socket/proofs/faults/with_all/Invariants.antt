use Rattle.std.proofs.Common.{◌≡◌, take}
use Rattle.sj_socket.specs.Counts.{capped_sum, met}
use Rattle.sj_socket.proofs.faults.with_all.Given as goal

abbrev pub invariant-loop-own : goal.invariant-loop-own
invariant-loop-own l = l.sum ≡ capped_sum l.before (met (take l.own-index l.lanes))
