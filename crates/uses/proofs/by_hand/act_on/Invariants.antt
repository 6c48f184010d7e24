use Rattle.std.proofs.Common.{◌≡◌, ◌+◌, length}
use Rattle.sj_node.specs.Node.{log_of}
use Rattle.uses.proofs.by_hand.act_on.Given as goal

abbrev pub invariant-loop-acts : goal.invariant-loop-acts
invariant-loop-acts l = length (log_of l.node) ≡ length (log_of l.fn.node) + l.acts
