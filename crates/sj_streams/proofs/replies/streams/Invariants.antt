use Rattle.std.proofs.Common.{◌≡◌, ◌-◌, map}
use Rattle.sj_streams.specs.Reading.{many_at, stream_at}
use Rattle.sj_streams.specs.Views.{came_view}
use Rattle.sj_streams.specs.Words.{tokens_at, words_at}
use Rattle.sj_streams.proofs.LoopLemmas.{with_front}
use Rattle.sj_streams.proofs.replies.streams.Given as goal

abbrev pub invariant-loop : goal.invariant-loop
invariant-loop l = with_front (map came_view l.all.items) (many_at (λ _. stream_at (words_at l.keys) l.seen) l.counter (l.count - l.counter) (tokens_at l.tokens.items)) ≡ many_at (λ _. stream_at (words_at l.keys) l.seen) 0 l.count (tokens_at l.fn.tokens.items)
