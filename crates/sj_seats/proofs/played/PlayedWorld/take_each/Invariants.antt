use Rattle.sj_seats.specs.Draining.{Adds, Goes, HasNoLane}
use Rattle.sj_seats.specs.Played.{IsReached, Keeps}
use Rattle.sj_seats.proofs.played.PlayedWorld.take_each.Given as goal

-- the lanes so far are empty, where nothing happened
abbrev pub invariant-loop-from : goal.invariant-loop-from
invariant-loop-from l = record {
  reached : IsReached l.self;
  keeps : Keeps l.fn.self l.self;
  adds : Adds l.fn.self l.self;
  goes : Goes l.fn.self l.self (HasNoLane l.self l.from l.party);
}
