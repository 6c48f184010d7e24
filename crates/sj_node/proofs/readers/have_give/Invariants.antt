use Rattle.std.proofs.Common.{◌<◌, ℕ}
use Rattle.sj_node.specs.Gives.{HasNoGive}
use Rattle.sj_node.specs.Outs.{waiting_in}
use Rattle.sj_node.proofs.readers.have_give.Given as goal

-- no Give waits in the outboxes so far
abbrev pub invariant-loop-out : goal.invariant-loop-out
invariant-loop-out l = (q : ℕ) → q < l.out-index → HasNoGive (waiting_in l.outs q)
