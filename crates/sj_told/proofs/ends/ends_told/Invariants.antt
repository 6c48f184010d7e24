use Rattle.std.proofs.Common.{drop, map}
use Rattle.sj_end.specs.Lines.{line_at}
use Rattle.sj_told.proofs.TellLemmas.{AreAhead}
use Rattle.sj_told.proofs.ends.ends_told.Given as goal

-- what is reported so far, and then what the remaining lines report
abbrev pub invariant-loop-line : goal.invariant-loop-line
invariant-loop-line l = AreAhead (map line_at l.lines) (map line_at (drop l.line-index l.lines)) l.connects l.ends.items
