use Rattle.std.proofs.Common.{◌≡◌, ◌<◌, ℕ, []}
use Rattle.sj_node.specs.Outs.{waiting_in}
use Rattle.sj_node.proofs.readers.are_empty.Given as goal

-- nothing waits in the outboxes so far
abbrev pub invariant-loop-out : goal.invariant-loop-out
invariant-loop-out l = (q : ℕ) → q < l.out-index → waiting_in l.outs q ≡ []
