use Rattle.std.proofs.Common.{◌≡◌, drop}
use Rattle.sj_run.specs.Workers.{AreHired}
use Rattle.sj_run.proofs.teams.hire.Given as goal

-- what is left of nodes and lanes, and who is hired so far
abbrev pub invariant-loop : goal.invariant-loop
invariant-loop g l = record {
  nodes : l.nodes.items ≡ drop l.counter l.fn.nodes.items;
  lanes : l.lanes.items ≡ drop l.counter l.fn.lanes.items;
  hired : AreHired l.fn.nodes.items l.fn.lanes.items l.counter l.workers.items;
}
