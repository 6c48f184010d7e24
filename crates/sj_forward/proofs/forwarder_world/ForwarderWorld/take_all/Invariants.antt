use Rattle.std.proofs.Common.{◌≡◌, length}
use Rattle.sj_forward.specs.ForwarderWorld.{IsReached, file_in, forwarders_in}
use Rattle.sj_forward.specs.Draining.{Ahead, Empties, Leaves, events_left}
use Rattle.sj_forward.proofs.forwarder_world.ForwarderWorld.take_all.Given as goal

abbrev pub invariant-loop : goal.invariant-loop
invariant-loop l = record {
  reached : IsReached l.self;
  file : file_in l.self ≡ file_in l.fn.self;
  count : length (forwarders_in l.self) ≡ length (forwarders_in l.fn.self);
  ahead : Ahead (Empties l.fn.self l.party l.from) l.fn.self l.self;
  left : Leaves (Empties l.fn.self l.party l.from) (Empties l.fn.self l.party l.from) l.fn.self l.self;
}

abbrev pub decreases-loop : goal.decreases-loop
decreases-loop l = events_left l.self
