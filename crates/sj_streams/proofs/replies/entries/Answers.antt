use Rattle.std.proofs.Common.{◌≡◌, ◌-◌, ◌+◌, List, [], ◌∷◌, ◌++◌, ℕ, ap, subst, ◌∙◌, sym, map, arith}
use Rattle.std.proofs.lemmas.List.{map-append}
use Rattle.sj_streams.specs.Reading.{Fails, Good, many_at, entry_at}
use Rattle.sj_streams.specs.Words.{tokens_at, words_at}
use Rattle.sj_streams.proofs.LoopLemmas.{with_front, goes_on, ends, is_done}
use Rattle.sj_streams.proofs.replies.entries.Goals as goal

pub returns-in-Err : goal.returns-in-Err
returns-in-Err c =
    ends entry_at c.in-Err.e (map (λ e. words_at e.items) c.loop-i.all.items) (c.args.first + c.loop-i.i) c.args.count c.loop-i.i (tokens_at c.loop-i.tokens.items)
    (many_at entry_at c.args.first c.args.count (tokens_at c.args.tokens.now.items)) c.loop-i-test.true (subst (λ (n : ℕ). Fails c.in-Err.e (entry_at (c.args.first + n) (tokens_at c.loop-i.tokens.items))) c.from.ensures c.in-Err.ensures) c.loop-i.invariant

pub loop-i-preserved : goal.loop-i-preserved
loop-i-preserved c =
    let total = many_at entry_at c.args.first c.args.count (tokens_at c.args.tokens.now.items) in
    let ts = tokens_at c.entry.new.tokens.items in
    let all : map (λ e. words_at e.items) c.push.new.self.items ≡ map (λ e. words_at e.items) c.loop-i.all.items ++ words_at c.in-Ok.words.items ∷ [] =
    ap (map (λ e. words_at e.items)) c.in_ok-push-in-Ok.ensures.items ∙ map-append (λ e. words_at e.items) c.loop-i.all.items (c.in-Ok.words ∷ []) in
    let at : (c.args.first + c.loop-i.i) + 1 ≡ c.args.first + (c.loop-i.i + 1) = omega arith in
    let next = goes_on entry_at (map (λ e. words_at e.items) c.loop-i.all.items) (c.args.first + c.loop-i.i) c.args.count c.loop-i.i (tokens_at c.loop-i.tokens.items) (words_at c.in-Ok.words.items) ts total
    c.loop-i-test.true (subst (λ (n : ℕ). entry_at (c.args.first + n) (tokens_at c.loop-i.tokens.items) ≡ Good (words_at c.in-Ok.words.items) ts) c.from.ensures c.in-Ok.ensures) c.loop-i.invariant in
    let moved = subst (λ (n : ℕ). with_front (map (λ e. words_at e.items) c.loop-i.all.items ++ words_at c.in-Ok.words.items ∷ []) (many_at entry_at n (c.args.count - (c.loop-i.i + 1)) ts) ≡ total) at next in
    subst (λ (front : List (List (List ℕ))). with_front front (many_at entry_at (c.args.first + (c.loop-i.i + 1)) (c.args.count - (c.loop-i.i + 1)) ts) ≡ total) (sym all) moved

pub returns : goal.returns
returns c = is_done entry_at (map (λ e. words_at e.items) c.loop-i.all.items) (c.args.first + c.loop-i.i) c.args.count c.loop-i.i (tokens_at c.loop-i.tokens.items) (many_at entry_at c.args.first c.args.count (tokens_at c.args.tokens.now.items)) c.loop-i-test.false c.loop-i.invariant
