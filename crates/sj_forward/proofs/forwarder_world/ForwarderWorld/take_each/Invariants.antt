use Rattle.std.proofs.Common.{◌≡◌, ◌-◌, length}
use Rattle.sj_rules.specs.Drain.{numbers_from}
use Rattle.sj_forward.specs.ForwarderWorld.{IsReached, file_in, forwarders_in}
use Rattle.sj_forward.specs.Draining.{EmptiesEach, GoesBy, Leaves}
use Rattle.sj_forward.proofs.forwarder_world.ForwarderWorld.take_each.Given as goal

abbrev pub invariant-loop-from : goal.invariant-loop-from
invariant-loop-from l = record {
  reached : IsReached l.self;
  file : file_in l.self ≡ file_in l.fn.self;
  count : length (forwarders_in l.self) ≡ length (forwarders_in l.fn.self);
  goes : GoesBy (EmptiesEach l.fn.self l.party (numbers_from 0 l.from)) l.fn.self l.self;
  left :
      Leaves (EmptiesEach l.fn.self l.party (numbers_from 0 (length (forwarders_in l.fn.self)))) (EmptiesEach l.fn.self l.party (numbers_from l.from (length (forwarders_in l.fn.self) - l.from)))
      l.fn.self l.self;
}
