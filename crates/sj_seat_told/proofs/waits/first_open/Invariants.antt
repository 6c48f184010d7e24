use Rattle.std.proofs.Common.{◌≡◌, ◌≤◌, length}
use Rattle.sj_seat_told.proofs.FirstLemmas.{first_from}
use Rattle.sj_seat_told.proofs.waits.first_open.Given as goal

-- that of the ends that were looked at
abbrev pub invariant-loop-at : goal.invariant-loop-at
invariant-loop-at l = record {
  within : l.at ≤ length l.ends;
  first : l.first ≡ first_from l.table l.ends l.at;
}

abbrev pub decreases-loop-at : goal.decreases-loop-at
decreases-loop-at l = l.at
