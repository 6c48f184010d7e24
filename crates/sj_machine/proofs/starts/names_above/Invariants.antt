use Rattle.std.proofs.Common.{◌≡◌, ℕ, ◌<◌, get_or, take}
use Rattle.sj_machine.specs.declared.arena.CodeNode.{CodeNode}
use Rattle.sj_machine.specs.Names.{AllBindBelow, AreBelowName, BindsBelow}
use Rattle.sj_machine.proofs.starts.names_above.Given as goal

abbrev pub invariant-loop-node : goal.invariant-loop-node
invariant-loop-node l = (i : ℕ) (n : CodeNode) → i < l.node-index → n ≡ get_or l.nodes i n → BindsBelow l.names n.op

abbrev pub invariant-loop-entry : goal.invariant-loop-entry
invariant-loop-entry l = record {
  nodes : AllBindBelow l.names l.nodes;
  ends : AreBelowName l.names (take l.entry-index l.ends);
}
