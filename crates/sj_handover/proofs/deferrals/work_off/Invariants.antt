use Rattle.std.proofs.Common.{◌≤◌, ◌+◌, map, drop, length}
use Rattle.sj_end.specs.Views.{deferred_at, post_at}
use Rattle.sj_handover.proofs.WorkLemmas.{IsWorking}
use Rattle.sj_handover.proofs.deferrals.work_off.Given as goal

abbrev pub invariant-loop-frame : goal.invariant-loop-frame
invariant-loop-frame l = record {
  working : IsWorking l.end l.tally l.untaken.items (map deferred_at l.deferred) (map deferred_at (drop l.frame-index l.deferred)) (map post_at l.initial.posts.items) (map post_at l.posts.items);
  base : l.end.base ≤ l.tally.base;
  upto : l.tally.base ≤ l.end.sent;
  room : l.end.taken + length l.untaken.items ≤ 1000001;
}
