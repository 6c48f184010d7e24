use Rattle.std.proofs.Common.{◌≡◌, ◌+◌, ◌-◌, length, take}
use Rattle.sj_plain.specs.Stepping.{reached, sessions_at}
use Rattle.sj_plain.proofs.uses.reach.Given as goal

abbrev pub invariant-loop-alloc : goal.invariant-loop-alloc
invariant-loop-alloc l = record {
  same : reached (sessions_at l.table l.sessions.items) l.number ≡ reached (sessions_at l.fn.table l.fn.sessions.items) l.number;
  front : take (length l.fn.sessions.items) l.sessions.items ≡ l.fn.sessions.items;
}

abbrev pub decreases-loop-alloc : goal.decreases-loop-alloc
decreases-loop-alloc l = l.number + 1 - length l.sessions.items
