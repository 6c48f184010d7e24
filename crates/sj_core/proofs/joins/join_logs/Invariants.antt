use Rattle.std.proofs.Common.{◌≡◌, ◌+◌, ◌≤◌, length, map}
use Rattle.std.specs.Prelude.{reverse, vec_capacity}
use Rattle.sj_core.specs.Given.{count_given, given_log, most_logs}
use Rattle.sj_core.specs.Tails.{last_clocks}
use Rattle.sj_core.specs.Views.{line_at}
use Rattle.sj_core.proofs.GivenLemmas.{Giving}
use Rattle.sj_core.proofs.joins.join_logs.Given as goal

abbrev pub invariant-loop-party : goal.invariant-loop-party
invariant-loop-party l = record {
  giving : Giving (given_log l.fn.logs.items) (given_log l.left.items) (map line_at (reverse l.lines.items));
  clocks : l.clocks.items ≡ last_clocks l.left.items;
  room : length l.lines.items + count_given l.left.items ≤ vec_capacity l.lines;
  few : length l.left.items ≤ most_logs;
}

abbrev pub decreases-loop-party : goal.decreases-loop-party
decreases-loop-party l = count_given l.left.items
