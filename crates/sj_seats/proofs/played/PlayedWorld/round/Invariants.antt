use Rattle.sj_seats.specs.Draining.{Adds, AreIdle, Goes}
use Rattle.sj_seats.specs.Played.{IsReached, Keeps}
use Rattle.sj_seats.proofs.played.PlayedWorld.round.Given as goal

-- the parties so far have nothing to do, where nothing happened
abbrev pub invariant-loop-party : goal.invariant-loop-party
invariant-loop-party l = record {
  reached : IsReached l.self;
  keeps : Keeps l.fn.self l.self;
  adds : Adds l.fn.self l.self;
  goes : Goes l.fn.self l.self (AreIdle l.self l.party);
}
