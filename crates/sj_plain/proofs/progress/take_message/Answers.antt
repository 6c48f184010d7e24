use Rattle.std.proofs.Common.{◌∙◌, ◌∷◌, [], ap, sym}
use Rattle.std.proofs.lemmas.Result.{on_ok_weaker}
use Rattle.sj_plain.specs.Ends.{protocols_in}
use Rattle.sj_plain.specs.Stepping.{sessions_at}
use Rattle.sj_semantics.specs.Uses.{after_uses, begins, takes}
use Rattle.sj_semantics.specs.World.{begun_at}
use Rattle.sj_plain.proofs.AheadLemmas.{body_in_table}
use Rattle.sj_plain.proofs.progress.take_message.Goals as goal

pub returns-in-Session-Sess-clause-ok : goal.returns-in-Session-Sess-clause-ok
returns-in-Session-Sess-clause-ok c =
    let t = c.args.table.now in
    let zs = sessions_at t c.args.sessions.now.items in
    let there = c.start.ensures.place ∙ sym (body_in_table t c.in-Session-Sess.protocol) in
    on_ok_weaker c.take_end_on.result
    (λ made.
    made
    ∙ ap (λ place. after_uses c.args.party ((c.args.end, takes c.args.msg.now) ∷ (record { sess = c.in-Session-Sess.sess; side = c.in-Session-Sess.side }, begins place) ∷ []) zs) there
    ∙ (λ i. after_uses c.args.party ((c.args.end, takes c.args.msg.now) ∷ begun_at (protocols_in t) (sym c.in-Session-Sess.is-0 i) (sym c.in-Session-Sess.is-1 i)) zs))
    c.take_end_on.ensures.ok
