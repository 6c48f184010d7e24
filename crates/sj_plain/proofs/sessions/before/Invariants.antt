use Rattle.std.proofs.Common.{◌-◌, ◌≤◌, length}
use Rattle.sj_plain.specs.Opened.{before_in}
use Rattle.sj_plain.proofs.sessions.before.Given as goal

abbrev pub invariant-loop-low : goal.invariant-loop-low
invariant-loop-low l = record {
  within : l.high ≤ length l.opened;
  above : l.low ≤ before_in l.opened l.party;
  below : before_in l.opened l.party ≤ l.high;
}

abbrev pub decreases-loop-low : goal.decreases-loop-low
decreases-loop-low l = l.high - l.low
