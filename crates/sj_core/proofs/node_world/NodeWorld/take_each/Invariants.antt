use Rattle.std.proofs.Common.{◌≡◌, ◌-◌, length}
use Rattle.sj_rules.specs.Drain.{numbers_from}
use Rattle.sj_core.specs.NodeWorld.{IsReached, file_in, nodes_in}
use Rattle.sj_core.specs.Draining.{EmptiesEach, GoesBy, Leaves}
use Rattle.sj_core.proofs.node_world.NodeWorld.take_each.Given as goal

abbrev pub invariant-loop-from : goal.invariant-loop-from
invariant-loop-from l = record {
  reached : IsReached l.self;
  file : file_in l.self ≡ file_in l.fn.self;
  count : length (nodes_in l.self) ≡ length (nodes_in l.fn.self);
  goes : GoesBy (EmptiesEach l.fn.self l.party (numbers_from 0 l.from)) l.fn.self l.self;
  left :
      Leaves (EmptiesEach l.fn.self l.party (numbers_from 0 (length (nodes_in l.fn.self)))) (EmptiesEach l.fn.self l.party (numbers_from l.from (length (nodes_in l.fn.self) - l.from)))
      l.fn.self l.self;
}
