use Rattle.std.proofs.Common.{◌≡◌, ◌++◌, drop}
use Rattle.sj_talk.specs.Names.{spelled}
use Rattle.sj_seat_lines.specs.Names.{named}
use Rattle.sj_seat_lines.proofs.starts.spelled.Given as goal

abbrev pub invariant-loop-entry : goal.invariant-loop-entry
invariant-loop-entry l = named l.out.items ++ spelled l.words (drop l.entry-index l.ends) ≡ spelled l.words l.ends
