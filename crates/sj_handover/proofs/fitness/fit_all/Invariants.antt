use Rattle.std.proofs.Common.{◌≤◌, ◌+◌, map, drop}
use Rattle.sj_table.specs.declared.table.Spot.{Spot}
use Rattle.sj_end.specs.Views.{deferred_at}
use Rattle.sj_handover.specs.Fitting.{end_at_spot}
use Rattle.sj_handover.proofs.FitLemmas.{IsFitting}
use Rattle.sj_handover.proofs.fitness.fit_all.Given as goal

-- what is left fits just where all does
abbrev pub invariant-loop-frame : goal.invariant-loop-frame
invariant-loop-frame l = record {
  fitting : (p : Spot) → IsFitting (end_at_spot l.end p) l.tally l.untaken (map deferred_at l.deferred) (map deferred_at (drop l.frame-index l.deferred));
  base : l.end.base ≤ l.tally.base;
  upto : l.tally.base ≤ l.end.sent;
  room : l.end.taken + l.untaken ≤ 1000001;
}
