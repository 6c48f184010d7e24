use Rattle.std.proofs.Common.{◌≡◌, ◌-◌, length, drop}
use Rattle.sj_streams.specs.Batch.{frames_named}
use Rattle.sj_streams.specs.Words.{words_at}
use Rattle.sj_streams.proofs.batch.frames_for.Given as goal

abbrev pub invariant-loop-at : goal.invariant-loop-at
invariant-loop-at l = frames_named l.name (drop l.at (words_at l.words)) ≡ frames_named l.name (drop 2 (words_at l.words))

abbrev pub decreases-loop-at : goal.decreases-loop-at
decreases-loop-at l = length l.words - l.at
