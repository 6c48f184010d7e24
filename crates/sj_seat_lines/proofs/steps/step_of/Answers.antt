use Rattle.std.proofs.Common.{◌≡◌, ◌∙◌, ap, sym, subst, IfOk}
use Rattle.sj_lang.specs.FileView.{file_of}
use Rattle.sj_seat.specs.Holding.{ends_of}
use Rattle.sj_talk.specs.Play.{form_at}
use Rattle.sj_talk.specs.declared.form.Form.{Form}
use Rattle.sj_seat_lines.specs.Names.{named}
use Rattle.sj_seat_lines.specs.Steps.{step_of}
use Rattle.sj_seat_lines.proofs.steps.step_of.Goals as goal

pub returns-in-Send-clause-step : goal.returns-in-Send-clause-step
returns-in-Send-clause-step c = subst (λ (f : Form). IfOk c.send.result (λ s. s ≡ step_of (file_of c.args.file.now) c.args.texts.now (named c.args.names.now) (ends_of c.args.seat) (form_at f))) (sym c.in-Send.is) (c.send.ensures.step (file_of c.args.file.now))

pub returns-in-Select-clause-step : goal.returns-in-Select-clause-step
returns-in-Select-clause-step c = c.select.ensures c.args.texts.now ∙ ap (λ (f : Form). step_of (file_of c.args.file.now) c.args.texts.now (named c.args.names.now) (ends_of c.args.seat) (form_at f)) (sym c.in-Select.is)

pub returns-in-Turn-clause-step : goal.returns-in-Turn-clause-step
returns-in-Turn-clause-step c = c.turn.ensures (file_of c.args.file.now) c.args.texts.now (ends_of c.args.seat) ∙ ap (λ (f : Form). step_of (file_of c.args.file.now) c.args.texts.now (named c.args.names.now) (ends_of c.args.seat) (form_at f)) (sym c.in-Turn.is)

pub returns-in-Delegate-clause-step : goal.returns-in-Delegate-clause-step
returns-in-Delegate-clause-step c = c.delegate.ensures (file_of c.args.file.now) c.args.texts.now (ends_of c.args.seat) ∙ ap (λ (f : Form). step_of (file_of c.args.file.now) c.args.texts.now (named c.args.names.now) (ends_of c.args.seat) (form_at f)) (sym c.in-Delegate.is)

pub returns-in-Take-clause-step : goal.returns-in-Take-clause-step
returns-in-Take-clause-step c = c.take.ensures (file_of c.args.file.now) c.args.texts.now (ends_of c.args.seat) ∙ ap (λ (f : Form). step_of (file_of c.args.file.now) c.args.texts.now (named c.args.names.now) (ends_of c.args.seat) (form_at f)) (sym c.in-Take.is)

pub returns-in-TakeEnd-clause-step : goal.returns-in-TakeEnd-clause-step
returns-in-TakeEnd-clause-step c = c.take_end.ensures (file_of c.args.file.now) c.args.texts.now ∙ ap (λ (f : Form). step_of (file_of c.args.file.now) c.args.texts.now (named c.args.names.now) (ends_of c.args.seat) (form_at f)) (sym c.in-TakeEnd.is)

pub returns-in-Close-clause-step : goal.returns-in-Close-clause-step
returns-in-Close-clause-step c = c.close.ensures (file_of c.args.file.now) c.args.texts.now (ends_of c.args.seat) ∙ ap (λ (f : Form). step_of (file_of c.args.file.now) c.args.texts.now (named c.args.names.now) (ends_of c.args.seat) (form_at f)) (sym c.in-Close.is)
