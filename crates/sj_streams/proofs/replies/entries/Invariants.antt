use Rattle.std.proofs.Common.{◌≡◌, ◌-◌, ◌+◌, map}
use Rattle.sj_streams.specs.Reading.{many_at, entry_at}
use Rattle.sj_streams.specs.Words.{tokens_at, words_at}
use Rattle.sj_streams.proofs.LoopLemmas.{with_front}
use Rattle.sj_streams.proofs.replies.entries.Given as goal

abbrev pub invariant-loop-i : goal.invariant-loop-i
invariant-loop-i l = with_front (map (λ e. words_at e.items) l.all.items) (many_at entry_at (l.first + l.i) (l.count - l.i) (tokens_at l.tokens.items)) ≡ many_at entry_at l.first l.count (tokens_at l.fn.tokens.items)
