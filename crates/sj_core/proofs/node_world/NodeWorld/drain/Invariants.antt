use Rattle.std.proofs.Common.{◌≡◌, length}
use Rattle.sj_core.specs.NodeWorld.{IsReached, file_in, nodes_in}
use Rattle.sj_core.specs.Draining.{Ahead, IsDrained, Leaves, events_left}
use Rattle.sj_core.proofs.node_world.NodeWorld.drain.Given as goal

abbrev pub invariant-loop : goal.invariant-loop
invariant-loop l = record {
  reached : IsReached l.self;
  file : file_in l.self ≡ file_in l.fn.self;
  count : length (nodes_in l.self) ≡ length (nodes_in l.fn.self);
  ahead : Ahead (IsDrained l.fn.self (length (nodes_in l.fn.self))) l.fn.self l.self;
  left : Leaves (IsDrained l.fn.self (length (nodes_in l.fn.self))) (IsDrained l.fn.self (length (nodes_in l.fn.self))) l.fn.self l.self;
}

abbrev pub decreases-loop : goal.decreases-loop
decreases-loop l = events_left l.self
