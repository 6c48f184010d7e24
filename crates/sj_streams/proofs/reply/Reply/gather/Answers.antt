use Rattle.std.proofs.Common.{◌≡◌, ◌+◌, ◌-◌, ◌^◌, min, [], ◌∷◌, ◌++◌, ap, ◌∙◌}
use Rattle.sj_resp.specs.Token.{token_at}
use Rattle.sj_streams.specs.Gathering.{parts_of, tokens_in}
use Rattle.sj_streams.specs.Words.{tokens_at}
use Rattle.sj_streams.proofs.GatherLemmas.{front_shrinks, put_after, took_more, took_none}
use Rattle.sj_streams.proofs.reply.Reply.gather.Goals as goal

pub loop-self-init : goal.loop-self-init
loop-self-init c = took_none c.args.self.now c.args.decoder.now

pub loop-self-smaller : goal.loop-self-smaller
loop-self-smaller c = front_shrinks c.loop-self.decoder (token_at c.in-Ok-Some.token) c.next.new.self (rw c.in-Ok-Some.field-0-is at c.in-Ok-Some.ensures.token)

pub loop-self-preserved : goal.loop-self-preserved
loop-self-preserved c =
    let t = token_at c.in-Ok-Some.token in
    let all : tokens_at c.push_back_reserved.new.self.items ≡ tokens_in c.loop-self.self ++ t ∷ [] =
    put_after c.loop-self.self.tokens.items c.reserve.new.self.items c.push_back_reserved.new.self.items c.in-Ok-Some.token c.reserve.ensures.items c.push_back_reserved.ensures.items in
    let due : c.saturating_add-self.result ≡ min (c.loop-self.self.due - 1 + parts_of t) (2 ^ 64 - 1) = c.saturating_add-self.ensures ∙ ap (λ n. min (c.loop-self.self.due - 1 + n) (2 ^ 64 - 1)) (c.from.ensures ∙ c.parts.ensures) in
    took_more c.args.self.now c.loop-self.self _ c.args.decoder.now c.loop-self.decoder c.next.new.self t c.loop-self.invariant c.loop-self-test.true (rw c.in-Ok-Some.field-0-is at c.in-Ok-Some.ensures.token) all due
