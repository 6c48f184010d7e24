use Rattle.std.proofs.Common.{◌≡◌, ◌≤◌, ◌++◌, ◌-◌, length}
use Rattle.std.specs.VecDeque.{deque_capacity, deque_len}
use Rattle.sj_node.proofs.outs.push_before.Given as goal

-- what is left and then the outbox is what it was, and there is room
abbrev pub invariant-loop-frame : goal.invariant-loop-frame
invariant-loop-frame l =
    (l.left.items ++ l.out.items ≡ l.fn.frames.items ++ l.fn.out.items)
    × (length l.left.items ≤ deque_capacity l.out - deque_len l.out)

abbrev pub decreases-loop-frame : goal.decreases-loop-frame
decreases-loop-frame l = goal.left-loop-frame l
