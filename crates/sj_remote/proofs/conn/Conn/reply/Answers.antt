use Rattle.std.proofs.Common.{◌<◌, ℕ, List, Err, refl, ap, sym, subst, ◌∙◌, arith}
use Rattle.sj_resp.specs.Token.{TokenAt}
use Rattle.sj_streams.specs.Gathering.{AreDue, due_after, tokens_in}
use Rattle.sj_remote.specs.Conn.{Replied}
use Rattle.sj_remote.proofs.ReplyLemmas.{due_none, err_is, gathered, gathered_hears, none_due, none_replied, whole_reply}
use Rattle.sj_remote.proofs.conn.Conn.reply.Goals as goal

pub loop-init : goal.loop-init
loop-init g c =
    let left = g.S.Source.left in
    let self = c.args.self.now in
    let none = c.new-reply.ensures.tokens in
    record {
      gathered = record {
        replied = subst (λ (ts : List TokenAt). Replied left self self ts) (sym none) (none_replied left self);
        due = c.new-reply.ensures.due ∙ sym due_none ∙ ap (due_after 1) (sym none);
        needed = subst (λ (ts : List TokenAt). AreDue 1 ts) (sym none) none_due;
      };
      later = omega arith;
      sink = refl;
    }

pub returns-in-Ok-true-clause-replied : goal.returns-in-Ok-true-clause-replied
returns-in-Ok-true-clause-replied g c =
    let left = g.S.Source.left in
    let now = gathered left c.args.self.now c.loop.self c.gather.new.self c.loop.reply c.gather.new.reply c.loop.invariant.gathered c.gather.ensures.source c.gather.ensures.took in
    subst (λ (ts : List TokenAt). Replied left c.args.self.now c.gather.new.self ts) (sym c.into_tokens.ensures) now.replied

pub returns-in-Ok-true-clause-whole : goal.returns-in-Ok-true-clause-whole
returns-in-Ok-true-clause-whole g c =
    let left = g.S.Source.left in
    let now = gathered left c.args.self.now c.loop.self c.gather.new.self c.loop.reply c.gather.new.reply c.loop.invariant.gathered c.gather.ensures.source c.gather.ensures.took in
    whole_reply left c.args.self.now c.gather.new.self c.gather.new.reply _ now (c.in-Ok-true.ensures.whole.0 c.in-Ok-true.field-0-test) c.into_tokens.ensures

pub returns-in-Err-clause-no_reply : goal.returns-in-Err-clause-no_reply
returns-in-Err-clause-no_reply g c = λ is.
    let left = g.S.Source.left in
    let now = gathered left c.args.self.now c.loop.self c.gather.new.self c.loop.reply c.gather.new.reply c.loop.invariant.gathered c.gather.ensures.source c.gather.ensures.took in
    let why = c.in-Err.ensures.no_reply (ap (λ e. Err e) (err_is is)) in
    record {
      tokens = tokens_in c.gather.new.reply;
      replied = now.replied;
      begun = now.needed;
      short = subst (λ (n : ℕ). 0 < n) now.due c.in-Err.ensures.short;
      cause = why.0;
      refused = why.1;
    }

pub loop-preserved : goal.loop-preserved
loop-preserved g c =
    let left = g.S.Source.left in
    let now = gathered left c.args.self.now c.loop.self c.gather.new.self c.loop.reply c.gather.new.reply c.loop.invariant.gathered c.gather.ensures.source c.gather.ensures.took in
    let before = c.loop.invariant.later in
    let same = ap g.S.Source.faults c.gather.ensures.source in
    let after = c.hear.ensures.later in
    record {
      gathered = gathered_hears left c.args.self.now c.gather.new.self c.hear.new.self c.gather.new.reply now c.in_default.ensures.ok;
      later = omega (arith, before, same, after);
      sink = c.hear.ensures.sink ∙ c.gather.ensures.sink ∙ c.loop.invariant.sink;
    }
