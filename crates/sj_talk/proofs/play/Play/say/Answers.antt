use Rattle.std.proofs.Common.{◌∙◌, None, Some, refl, subst, sym}
use Rattle.std.proofs.lemmas.Result.{IfOk-weaker, on_err_weaker, on_ok_weaker}
use Rattle.sj_talk.specs.Play.{form_at, talk_at}
use Rattle.sj_talk.specs.TalkWorld.{OnlyTexts, TalkWorld}
use Rattle.sj_talk.proofs.LineLemmas.{line_done, line_refused}
use Rattle.sj_talk.proofs.play.Play.say.Goals as goal

pub returns-in-None-clause-said : goal.returns-in-None-clause-said
returns-in-None-clause-said c = (line_refused (talk_at c.args.self.now) c.args.line.now None 1 c.in-None.ensures refl).0

pub returns-in-None-clause-ok : goal.returns-in-None-clause-ok
returns-in-None-clause-ok c = (line_refused (talk_at c.args.self.now) c.args.line.now None 1 c.in-None.ensures refl).1

pub returns-in-Ok-Some-clause-said : goal.returns-in-Ok-Some-clause-said
returns-in-Ok-Some-clause-said c = (line_refused (talk_at c.args.self.now) c.args.line.now (Some (form_at c.in-Some.form)) c.in-Ok-Some.rule c.in-Some.ensures (sym c.in-Ok-Some.field-0-is ∙ c.in-Ok-Some.ensures)).0

pub returns-in-Ok-Some-clause-ok : goal.returns-in-Ok-Some-clause-ok
returns-in-Ok-Some-clause-ok c = (line_refused (talk_at c.args.self.now) c.args.line.now (Some (form_at c.in-Some.form)) c.in-Ok-Some.rule c.in-Some.ensures (sym c.in-Ok-Some.field-0-is ∙ c.in-Ok-Some.ensures)).1

pub returns-in-Ok-None-clause-said : goal.returns-in-Ok-None-clause-said
returns-in-Ok-None-clause-said c =
    let d = line_done (talk_at c.args.self.now) c.args.line.now (form_at c.in-Some.form) c.in-Some.ensures (sym c.in-Ok-None.field-0-is ∙ c.in-Ok-None.ensures) in
    IfOk-weaker c.act.result _ _ (λ s a. a ∙ d.0) c.act.ensures.said

pub returns-in-Ok-None-clause-ok : goal.returns-in-Ok-None-clause-ok
returns-in-Ok-None-clause-ok c =
    let d = line_done (talk_at c.args.self.now) c.args.line.now (form_at c.in-Some.form) c.in-Some.ensures (sym c.in-Ok-None.field-0-is ∙ c.in-Ok-None.ensures) in
    on_ok_weaker c.act.result (λ a. a ∙ d.1) c.act.ensures.ok

pub returns-in-Ok-None-clause-err : goal.returns-in-Ok-None-clause-err
returns-in-Ok-None-clause-err c =
    let t = talk_at c.args.self.now in
    let d = line_done t c.args.line.now (form_at c.in-Some.form) c.in-Some.ensures (sym c.in-Ok-None.field-0-is ∙ c.in-Ok-None.ensures) in
    on_err_weaker c.act.result (λ h. subst (λ (u : TalkWorld). OnlyTexts t u.file.texts (talk_at c.act.new.self)) d.1 h) c.act.ensures.err
