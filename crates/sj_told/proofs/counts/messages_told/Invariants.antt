use Rattle.std.proofs.Common.{◌≡◌, ◌+◌, ◌≤◌, drop, map}
use Rattle.sj_end.specs.Lines.{line_at}
use Rattle.sj_told.specs.Counts.{sent_count}
use Rattle.sj_told.proofs.counts.messages_told.Given as goal

-- those so far, and those of the lines that are left
abbrev pub invariant-loop-line : goal.invariant-loop-line
invariant-loop-line l = record {
  all : l.count + sent_count (map line_at (drop l.line-index l.lines)) ≡ sent_count (map line_at l.lines);
  few : l.count ≤ l.line-index;
}
