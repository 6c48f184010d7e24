use Rattle.std.proofs.Common.{◌≡◌, ℕ, ◌<◌, ◌≤◌, true}
use Rattle.sj_node.specs.Outs.{waiting_in}
use Rattle.sj_node.specs.Reading.{TakesOut, outs_of}
use Rattle.sj_run.specs.Handed.{HasTaken, LanesStay}
use Rattle.sj_run.proofs.handed.hand_from.Given as goal

-- the node took what waits for the parties so far
abbrev pub invariant-loop-to : goal.invariant-loop-to
invariant-loop-to g l = record {
  lanes : LanesStay g.L.Out.OutLane g.L.In.InLane g.L.Links.joined l.fn.lanes.items l.lanes.items;
  tells : g.L.Links.tells l.links ≡ g.L.Links.tells l.fn.links;
  faults : g.L.Links.faults l.links ≡ g.L.Links.faults l.fn.links;
  telling : 0 < l.to → g.L.Links.tells l.fn.links ≡ true;
  same : TakesOut l.fn.node l.own;
  taken : (q : ℕ) → q < l.to → HasTaken g.L.Out.OutLane.pushed g.L.In.InLane.popped l.fn.lanes.items l.fn.from q l.fn.node l.own;
  later : (q : ℕ) → l.to ≤ q → waiting_in (outs_of l.own) q ≡ waiting_in (outs_of l.fn.node) q;
}
