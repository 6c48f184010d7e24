use Rattle.std.proofs.Common.{◌≡◌, ℕ, ◌<◌, drop, length, Some, true}
use Rattle.std.specs.Prelude.{slice_get}
use Rattle.sj_node.specs.declared.node.Node.{Node}
use Rattle.sj_run.specs.Handed.{IsHandedIn, LanesStay}
use Rattle.sj_run.proofs.handed.hand_in.Given as goal

-- what is left of the nodes, and what those so far took
abbrev pub invariant-loop-from : goal.invariant-loop-from
invariant-loop-from g l = record {
  lanes : LanesStay g.L.Out.OutLane g.L.In.InLane g.L.Links.joined l.fn.lanes.items l.lanes.items;
  tells : g.L.Links.tells l.links ≡ g.L.Links.tells l.fn.links;
  faults : g.L.Links.faults l.links ≡ g.L.Links.faults l.fn.links;
  telling : 0 < l.from → g.L.Links.tells l.fn.links ≡ true;
  nodes : l.nodes.items ≡ drop l.from l.fn.nodes.items;
  count : length l.handed.items ≡ l.from;
  each :
      (p : ℕ) (m : Node) → slice_get l.handed.items p ≡ Some m → (n : Node) × (slice_get l.fn.nodes.items p ≡ Some n) × IsHandedIn g.L.Out.OutLane.pushed g.L.In.InLane.popped l.fn.lanes.items p n m;
}
