use Rattle.std.proofs.Common.{◌≡◌, take}
use Rattle.sj_core.specs.Given.{count_given}
use Rattle.sj_core.proofs.joins.room_for.Given as goal

-- the entries so far
abbrev pub invariant-loop-log : goal.invariant-loop-log
invariant-loop-log l = l.entries ≡ count_given (take l.log-index l.logs)
