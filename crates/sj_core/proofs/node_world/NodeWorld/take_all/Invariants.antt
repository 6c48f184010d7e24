use Rattle.std.proofs.Common.{◌≡◌, length}
use Rattle.sj_core.specs.NodeWorld.{IsReached, file_in, nodes_in}
use Rattle.sj_core.specs.Draining.{Ahead, Empties, Leaves, events_left}
use Rattle.sj_core.proofs.node_world.NodeWorld.take_all.Given as goal

abbrev pub invariant-loop : goal.invariant-loop
invariant-loop l = record {
  reached : IsReached l.self;
  file : file_in l.self ≡ file_in l.fn.self;
  count : length (nodes_in l.self) ≡ length (nodes_in l.fn.self);
  ahead : Ahead (Empties l.fn.self l.party l.from) l.fn.self l.self;
  left : Leaves (Empties l.fn.self l.party l.from) (Empties l.fn.self l.party l.from) l.fn.self l.self;
}

abbrev pub decreases-loop : goal.decreases-loop
decreases-loop l = events_left l.self
