use Rattle.std.proofs.Common.{◌∙◌, sym}
use Rattle.std.proofs.lemmas.Result.{on_ok_weaker}
use Rattle.sj_base.specs.declared.Msg.TheVariants as msgs
use Rattle.sj_talk.specs.Play.{talk_at}
use Rattle.sj_talk.proofs.ActLemmas.{end_used, nothing_used}
use Rattle.sj_talk.proofs.play.Play.take_end.Goals as goal

pub returns-in-Sess-clause-ok : goal.returns-in-Sess-clause-ok
returns-in-Sess-clause-ok c =
    on_ok_weaker c.bind.result
    (λ used. end_used (talk_at c.args.self.now) (talk_at c.bind.new.self) c.args.end.now c.args.name.now (msgs.Sess c.in-Sess.sess c.in-Sess.side c.in-Sess.keeper) (sym c.in-Sess.is ∙ c.next-msg.ensures) used)
    c.bind.ensures.ok

pub returns-in_default-clause-ok : goal.returns-in_default-clause-ok
returns-in_default-clause-ok c =
    on_ok_weaker c.take.result
    (λ used. nothing_used (talk_at c.args.self.now) (talk_at c.take.new.self) c.args.end.now c.args.name.now c.next-msg.result c.in_default.not-Sess c.next-msg.ensures used)
    c.take.ensures.ok
