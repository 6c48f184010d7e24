use Rattle.std.proofs.Common.{map, take}
use Rattle.sj_core.specs.Views.{line_at}
use Rattle.sj_seats.specs.Played.{IsLedBy, Keeps}
use Rattle.sj_seats.proofs.played.PlayedWorld.replayed.Given as goal

abbrev pub invariant-loop-done : goal.invariant-loop-done
invariant-loop-done l = record {
  led : IsLedBy l.self (map line_at (take l.done l.lines.items));
  keeps : Keeps l.fn.self l.self;
}
