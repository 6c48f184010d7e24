use Rattle.std.proofs.Common.{◌≡◌, ◌-◌, ◌+◌, List, [], ◌∷◌, ◌++◌, ℕ, ap, subst, ◌∙◌, sym}
use Rattle.std.proofs.lemmas.List.{map-append}
use Rattle.sj_streams.specs.Reading.{many_at, word_at, words_in}
use Rattle.sj_streams.specs.Words.{tokens_at, words_at}
use Rattle.sj_streams.proofs.LoopLemmas.{with_front, goes_on, ends, is_done}
use Rattle.sj_streams.proofs.parts.words.Goals as goal

pub returns-in-Err : goal.returns-in-Err
returns-in-Err c =
    ends (λ _. word_at) c.in-Err.e (words_at c.loop.words.items) c.loop.counter c.args.count c.loop.counter (tokens_at c.loop.tokens.items) (words_in c.args.count (tokens_at c.args.tokens.now.items))
    c.loop-test.true c.in-Err.ensures c.loop.invariant

pub loop-preserved : goal.loop-preserved
loop-preserved c =
    let all : words_at c.push.new.self.items ≡ words_at c.loop.words.items ++ c.in-Ok.text.items ∷ [] = ap words_at c.in_ok-push-in-Ok.ensures.items ∙ map-append (λ w. w.items) c.loop.words.items (c.in-Ok.text ∷ []) in
    let next = goes_on (λ _. word_at) (words_at c.loop.words.items) c.loop.counter c.args.count c.loop.counter (tokens_at c.loop.tokens.items) c.in-Ok.text.items (tokens_at c.word.new.tokens.items)
    (words_in c.args.count (tokens_at c.args.tokens.now.items)) c.loop-test.true c.in-Ok.ensures c.loop.invariant in
    subst (λ (front : List (List ℕ)). with_front front (many_at (λ _. word_at) (c.loop.counter + 1) (c.args.count - (c.loop.counter + 1)) (tokens_at c.word.new.tokens.items)) ≡ words_in c.args.count (tokens_at c.args.tokens.now.items)) (sym all) next

pub returns : goal.returns
returns c = is_done (λ _. word_at) (words_at c.loop.words.items) c.loop.counter c.args.count c.loop.counter (tokens_at c.loop.tokens.items) (words_in c.args.count (tokens_at c.args.tokens.now.items)) c.loop-test.false c.loop.invariant
