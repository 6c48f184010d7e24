use Rattle.std.proofs.Common.{◌≡◌, ◌+◌, length}
use Rattle.sj_steal.specs.Tasks.{AreTasks}
use Rattle.sj_steal.proofs.calls.tasks_of.Given as goal

-- a task for each value so far, and how many are left
abbrev pub invariant-loop-value : goal.invariant-loop-value
invariant-loop-value g l = AreTasks l.call l.yielded l.tasks.items × (length l.yielded + length l.value-iterator.rest.items ≡ length l.fn.values.items)
