use Rattle.std.proofs.Common.{◌≡◌, ◌-◌}
use Rattle.sj_streams.specs.Reading.{many_at, word_at, words_in}
use Rattle.sj_streams.specs.Words.{tokens_at, words_at}
use Rattle.sj_streams.proofs.LoopLemmas.{with_front}
use Rattle.sj_streams.proofs.parts.words.Given as goal

abbrev pub invariant-loop : goal.invariant-loop
invariant-loop l = with_front (words_at l.words.items) (many_at (λ _. word_at) l.counter (l.count - l.counter) (tokens_at l.tokens.items)) ≡ words_in l.count (tokens_at l.fn.tokens.items)
