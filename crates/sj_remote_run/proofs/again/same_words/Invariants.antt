use Rattle.std.proofs.Common.{◌≡◌, take}
use Rattle.sj_streams.specs.Words.{words_at}
use Rattle.sj_remote_run.proofs.again.same_words.Given as goal

-- the words before that one are the same
abbrev pub invariant-loop-i : goal.invariant-loop-i
invariant-loop-i l = words_at (take l.i l.these) ≡ words_at (take l.i l.those)
