use Rattle.std.proofs.Common.{◌≡◌, ◌∙◌, None, Some, ap, inl, subst, sym}
use Rattle.std.proofs.lemmas.Result.{on_err_weaker, on_ok_weaker}
use Rattle.sj_talk.specs.Doing.{after_form, texts_after}
use Rattle.sj_talk.specs.Play.{form_at, talk_at}
use Rattle.sj_talk.specs.Rules.{refusal_of}
use Rattle.sj_talk.specs.TalkWorld.{OnlyTexts}
use Rattle.sj_talk.specs.declared.form.Form.{Form}
use Rattle.sj_talk.proofs.ActLemmas.{hops_by, room_by}
use Rattle.sj_talk.proofs.play.Play.perform.Goals as goal

pub send_value-requires-clause-room : goal.send_value-requires-clause-room
send_value-requires-clause-room c = room_by (talk_at c.args.self.now) (form_at c.args.form.now) c.requires.allowed

pub select-requires-clause-room : goal.select-requires-clause-room
select-requires-clause-room c = room_by (talk_at c.args.self.now) (form_at c.args.form.now) c.requires.allowed

pub send-requires-clause-room : goal.send-requires-clause-room
send-requires-clause-room c = room_by (talk_at c.args.self.now) (form_at c.args.form.now) c.requires.allowed

pub delegate-requires-clause-room : goal.delegate-requires-clause-room
delegate-requires-clause-room c = room_by (talk_at c.args.self.now) (form_at c.args.form.now) c.requires.allowed

pub take_next-requires-clause-room : goal.take_next-requires-clause-room
take_next-requires-clause-room c = room_by (talk_at c.args.self.now) (form_at c.args.form.now) c.requires.allowed

pub take_end-requires-clause-room : goal.take_end-requires-clause-room
take_end-requires-clause-room c = room_by (talk_at c.args.self.now) (form_at c.args.form.now) c.requires.allowed

pub close-requires-clause-room : goal.close-requires-clause-room
close-requires-clause-room c = room_by (talk_at c.args.self.now) (form_at c.args.form.now) c.requires.allowed

pub delegate-requires-clause-hops : goal.delegate-requires-clause-hops
delegate-requires-clause-hops c =
    let t = talk_at c.args.self.now in
    hops_by t _ _ (subst (λ (f : Form). refusal_of t (Some (form_at f)) ≡ None) c.in-Delegate.is c.requires.allowed)

pub returns-in-Send-clause-ok : goal.returns-in-Send-clause-ok
returns-in-Send-clause-ok c =
    on_ok_weaker c.send_value.result (λ is. is ∙ ap (λ (f : Form). after_form (talk_at c.args.self.now) (form_at f)) (sym c.in-Send.is)) c.send_value.ensures.ok

pub returns-in-Send-clause-err : goal.returns-in-Send-clause-err
returns-in-Send-clause-err c =
    let t = talk_at c.args.self.now in
    on_err_weaker c.send_value.result
    (λ h. subst (λ (f : Form). OnlyTexts t (texts_after t (form_at f)) (talk_at c.send_value.new.self)) (sym c.in-Send.is) h)
    c.send_value.ensures.err

pub returns-in-Select-clause-ok : goal.returns-in-Select-clause-ok
returns-in-Select-clause-ok c =
    on_ok_weaker c.select.result (λ is. is ∙ ap (λ (f : Form). after_form (talk_at c.args.self.now) (form_at f)) (sym c.in-Select.is)) c.select.ensures.ok

pub returns-in-Select-clause-err : goal.returns-in-Select-clause-err
returns-in-Select-clause-err c = on_err_weaker c.select.result (λ same. inl same) c.select.ensures.err

pub returns-in-Turn-clause-ok : goal.returns-in-Turn-clause-ok
returns-in-Turn-clause-ok c =
    on_ok_weaker c.send.result (λ is. is ∙ ap (λ (f : Form). after_form (talk_at c.args.self.now) (form_at f)) (sym c.in-Turn.is)) c.send.ensures.ok

pub returns-in-Turn-clause-err : goal.returns-in-Turn-clause-err
returns-in-Turn-clause-err c = on_err_weaker c.send.result (λ same. inl same) c.send.ensures.err

pub returns-in-Delegate-clause-ok : goal.returns-in-Delegate-clause-ok
returns-in-Delegate-clause-ok c =
    on_ok_weaker c.delegate.result (λ is. is ∙ ap (λ (f : Form). after_form (talk_at c.args.self.now) (form_at f)) (sym c.in-Delegate.is)) c.delegate.ensures.ok

pub returns-in-Delegate-clause-err : goal.returns-in-Delegate-clause-err
returns-in-Delegate-clause-err c = on_err_weaker c.delegate.result (λ same. inl same) c.delegate.ensures.err

pub returns-in-Take-clause-ok : goal.returns-in-Take-clause-ok
returns-in-Take-clause-ok c =
    on_ok_weaker c.take_next.result (λ is. is ∙ ap (λ (f : Form). after_form (talk_at c.args.self.now) (form_at f)) (sym c.in-Take.is)) c.take_next.ensures.ok

pub returns-in-Take-clause-err : goal.returns-in-Take-clause-err
returns-in-Take-clause-err c = on_err_weaker c.take_next.result (λ same. inl same) c.take_next.ensures.err

pub returns-in-TakeEnd-clause-ok : goal.returns-in-TakeEnd-clause-ok
returns-in-TakeEnd-clause-ok c =
    on_ok_weaker c.take_end.result (λ is. is ∙ ap (λ (f : Form). after_form (talk_at c.args.self.now) (form_at f)) (sym c.in-TakeEnd.is)) c.take_end.ensures.ok

pub returns-in-TakeEnd-clause-err : goal.returns-in-TakeEnd-clause-err
returns-in-TakeEnd-clause-err c = on_err_weaker c.take_end.result (λ same. inl same) c.take_end.ensures.err

pub returns-in-Close-clause-ok : goal.returns-in-Close-clause-ok
returns-in-Close-clause-ok c = c.close.ensures.ok ∙ ap (λ (f : Form). after_form (talk_at c.args.self.now) (form_at f)) (sym c.in-Close.is)
