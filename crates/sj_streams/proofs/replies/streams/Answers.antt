use Rattle.std.proofs.Common.{◌≡◌, ◌-◌, ◌+◌, List, [], ◌∷◌, ◌++◌, ap, subst, ◌∙◌, sym, map}
use Rattle.std.proofs.lemmas.List.{map-append}
use Rattle.sj_streams.specs.Reading.{CameAt, many_at, stream_at}
use Rattle.sj_streams.specs.Views.{came_view}
use Rattle.sj_streams.specs.Words.{tokens_at, words_at}
use Rattle.sj_streams.proofs.LoopLemmas.{with_front, goes_on, ends, is_done}
use Rattle.sj_streams.proofs.replies.streams.Goals as goal

pub returns-in-Err : goal.returns-in-Err
returns-in-Err c =
    let read = stream_at (words_at c.args.keys.now) c.args.seen.now in
    ends (λ _. read) c.in-Err.e (map came_view c.loop.all.items) c.loop.counter c.args.count c.loop.counter (tokens_at c.loop.tokens.items) (many_at (λ _. read) 0 c.args.count (tokens_at c.args.tokens.now.items))
    c.loop-test.true c.in-Err.ensures c.loop.invariant

pub loop-preserved : goal.loop-preserved
loop-preserved c =
    let read = stream_at (words_at c.args.keys.now) c.args.seen.now in
    let total = many_at (λ _. read) 0 c.args.count (tokens_at c.args.tokens.now.items) in
    let ts = tokens_at c.stream.new.tokens.items in
    let all : map came_view c.push.new.self.items ≡ map came_view c.loop.all.items ++ came_view c.in-Ok.came ∷ [] = ap (map came_view) c.in_ok-push-in-Ok.ensures.items ∙ map-append came_view c.loop.all.items (c.in-Ok.came ∷ []) in
    let next = goes_on (λ _. read) (map came_view c.loop.all.items) c.loop.counter c.args.count c.loop.counter (tokens_at c.loop.tokens.items) (came_view c.in-Ok.came) ts total c.loop-test.true c.in-Ok.ensures c.loop.invariant in
    subst (λ (front : List CameAt). with_front front (many_at (λ _. read) (c.loop.counter + 1) (c.args.count - (c.loop.counter + 1)) ts) ≡ total) (sym all) next

pub returns : goal.returns
returns c =
    let read = stream_at (words_at c.args.keys.now) c.args.seen.now in
    is_done (λ _. read) (map came_view c.loop.all.items) c.loop.counter c.args.count c.loop.counter (tokens_at c.loop.tokens.items) (many_at (λ _. read) 0 c.args.count (tokens_at c.args.tokens.now.items)) c.loop-test.false c.loop.invariant
