use Rattle.std.proofs.Common.{◌≡◌, ◌++◌}
use Rattle.sj_seat_told.proofs.OpenedLemmas.{ahead_of}
use Rattle.sj_seat_told.proofs.sessions.add_opened.Given as goal

-- what is ahead is the lines that are left
abbrev pub invariant-loop-line : goal.invariant-loop-line
invariant-loop-line l = l.all.items ++ ahead_of l.lines l.party l.line-index ≡ l.fn.all.items ++ ahead_of l.lines l.party 0
