use Rattle.std.specs.Prelude.{⊤}
use Rattle.sj_seats.specs.Draining.{Adds, Goes, events_left}
use Rattle.sj_seats.specs.Played.{IsReached, Keeps}
use Rattle.sj_seats.proofs.played.PlayedWorld.act_out.Given as goal

abbrev pub invariant-loop : goal.invariant-loop
invariant-loop l = record {
  reached : IsReached l.self;
  keeps : Keeps l.fn.self l.self;
  adds : Adds l.fn.self l.self;
  goes : Goes l.fn.self l.self ⊤;
}

abbrev pub decreases-loop : goal.decreases-loop
decreases-loop l = events_left l.self
