-- Why a node that acts by hand stops.
use Rattle.std.specs.Prelude.{◌≡◌, None, Some, ⊤}
use Rattle.sj_node.specs.declared.node.Node.{Node}
use Rattle.sj_node.specs.declared.refusal.Halt.{Halt}
use Rattle.sj_node.specs.declared.refusal.Halt.TheVariants as halts
use Rattle.sj_node.specs.Node.{act_of, node_halt}

-- that is what stops the node; unfit comes where the rules have no act, and out of memory may come
-- at any time
abbrev pub StopsFor : Node → Halt → Type 0
StopsFor n halts.Ended = node_halt n ≡ Some halts.Ended
StopsFor n halts.AtLimit = node_halt n ≡ Some halts.AtLimit
StopsFor n halts.Waits = node_halt n ≡ Some halts.Waits
StopsFor n halts.Unfit = act_of n ≡ None
StopsFor n halts.NoMemory = ⊤
