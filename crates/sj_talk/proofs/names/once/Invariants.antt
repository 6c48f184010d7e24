use Rattle.std.proofs.Common.{◌≡◌, drop}
use Rattle.sj_talk.specs.Names.{once, with_words}
use Rattle.sj_talk.proofs.names.once.Given as goal

abbrev pub invariant-loop-n : goal.invariant-loop-n
invariant-loop-n l = with_words l.out (drop l.n l.words) ≡ once l.words
