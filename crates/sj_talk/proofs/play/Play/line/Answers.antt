use Rattle.std.proofs.Common.{◌∙◌, ap}
use Rattle.std.proofs.lemmas.Result.{IfOk-weaker, on_err_weaker, on_ok_weaker}
use Rattle.sj_talk.specs.Doing.{after_line, said_of}
use Rattle.sj_talk.specs.Play.{talk_at}
use Rattle.sj_talk.proofs.LineLemmas.{unsaid_by}
use Rattle.sj_talk.proofs.play.Play.line.Goals as goal

pub returns-clause-said : goal.returns-clause-said
returns-clause-said c = IfOk-weaker c.say.result _ _ (λ s is. is ∙ ap (λ t. said_of t c.args.line.now) c.in_ok-others.ensures.ok) c.say.ensures.said

pub returns-clause-ok : goal.returns-clause-ok
returns-clause-ok c = on_ok_weaker c.say.result (λ is. is ∙ ap (λ t. after_line t c.args.line.now) c.in_ok-others.ensures.ok) c.say.ensures.ok

pub returns-clause-err : goal.returns-clause-err
returns-clause-err c =
    on_err_weaker c.say.result (λ h. unsaid_by (talk_at c.args.self.now) (talk_at c.others.new.self) (talk_at c.say.new.self) c.args.line.now c.in_ok-others.ensures.ok h) c.say.ensures.err
