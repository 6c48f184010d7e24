use Rattle.std.proofs.Common.{◌≡◌, ◌-◌, length}
use Rattle.sj_rules.specs.Drain.{numbers_from}
use Rattle.sj_forward.specs.ForwarderWorld.{IsReached, file_in, forwarders_in}
use Rattle.sj_forward.specs.Draining.{GoesBy, Leaves, TakeTurns}
use Rattle.sj_forward.proofs.forwarder_world.ForwarderWorld.round.Given as goal

abbrev pub invariant-loop-party : goal.invariant-loop-party
invariant-loop-party l = record {
  reached : IsReached l.self;
  file : file_in l.self ≡ file_in l.fn.self;
  count : length (forwarders_in l.self) ≡ length (forwarders_in l.fn.self);
  goes : GoesBy (TakeTurns l.fn.self (length (forwarders_in l.fn.self)) (numbers_from 0 l.party)) l.fn.self l.self;
  left :
      Leaves (TakeTurns l.fn.self (length (forwarders_in l.fn.self)) (numbers_from 0 (length (forwarders_in l.fn.self))))
      (TakeTurns l.fn.self (length (forwarders_in l.fn.self)) (numbers_from l.party (length (forwarders_in l.fn.self) - l.party))) l.fn.self l.self;
}
