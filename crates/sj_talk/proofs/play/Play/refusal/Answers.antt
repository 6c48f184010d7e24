use Rattle.std.proofs.Common.{◌∙◌, Some, ap, sym, true}
use Rattle.std.proofs.lemmas.Result.{IfOk-weaker}
use Rattle.sj_talk.specs.Play.{form_at, talk_at}
use Rattle.sj_talk.specs.Rules.{refusal_of}
use Rattle.sj_talk.specs.declared.form.Form.{Form}
use Rattle.sj_talk.proofs.play.Play.refusal.Goals as goal

pub returns-in-Turn : goal.returns-in-Turn
returns-in-Turn c =
    IfOk-weaker c.turn_refusal.result _ _ (λ r is. is ∙ sym (ap (λ (f : Form). refusal_of (talk_at c.args.self.now) (Some (form_at f))) c.in-Turn.is)) (c.turn_refusal.ensures true)
