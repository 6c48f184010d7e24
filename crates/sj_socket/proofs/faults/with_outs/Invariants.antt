use Rattle.std.proofs.Common.{◌≡◌, take}
use Rattle.sj_socket.specs.Counts.{capped_sum, met_out}
use Rattle.sj_socket.proofs.faults.with_outs.Given as goal

abbrev pub invariant-loop-out : goal.invariant-loop-out
invariant-loop-out l = l.sum ≡ capped_sum l.before (met_out (take l.out-index l.outs))
