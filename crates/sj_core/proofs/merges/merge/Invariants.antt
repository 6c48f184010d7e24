use Rattle.std.proofs.Common.{length, ◌+◌, ◌-◌, ◌≤◌, map, drop}
use Rattle.sj_core.specs.Views.{line_at}
use Rattle.sj_core.proofs.MergeLemmas.{Merging}
use Rattle.sj_core.proofs.merges.merge.Given as goal

abbrev pub invariant-loop-i : goal.invariant-loop-i
invariant-loop-i l = record {
  front_in : l.i ≤ length l.front;
  back_in : l.j ≤ length l.back;
  merging : Merging (map line_at l.front) (map line_at l.back) (map line_at l.lines.items) (map line_at (drop l.i l.front)) (map line_at (drop l.j l.back));
}

abbrev pub decreases-loop-i : goal.decreases-loop-i
decreases-loop-i l = length l.front - l.i + (length l.back - l.j)
