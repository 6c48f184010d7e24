use Rattle.std.proofs.Common.{◌≡◌, ◌++◌, drop}
use Rattle.sj_talk.specs.Names.{spelled}
use Rattle.sj_talk.specs.Play.{ends_at}
use Rattle.sj_talk.proofs.start.spelled.Given as goal

abbrev pub invariant-loop-entry : goal.invariant-loop-entry
invariant-loop-entry l = ends_at l.out.items ++ spelled l.words (drop l.entry-index l.ends) ≡ spelled l.words l.ends
