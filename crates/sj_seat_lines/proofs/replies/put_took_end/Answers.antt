use Rattle.std.proofs.lemmas.Result.{on_err_weaker}
use Rattle.sj_lang.specs.FileView.{file_of}
use Rattle.sj_talk.specs.Names.{with_texts}
use Rattle.sj_text.proofs.CutLemmas.{cut_here, cut_within, finish_ok, on_err}
use Rattle.sj_seat_lines.proofs.ReplyLemmas.{end_gap, end_message, end_name, end_space}
use Rattle.sj_seat_lines.proofs.replies.put_took_end.Goals as goal

pub returns-in_err-put_message-clause-err : goal.returns-in_err-put_message-clause-err
returns-in_err-put_message-clause-err c =
    on_err c.from_residual-in_err-put_message.result _
    (cut_within _ _ _ _ _ _ (end_gap (with_texts (file_of c.args.file.now) c.args.texts.now) c.args.msg c.args.end.now c.args.name.now c.args.text.now.items
    c.put.new.text.items c.put-2.new.text.items c.put-3.new.text.items
    c.in_ok-put.ensures.ok c.in_ok-put-2.ensures.ok c.in_ok-put-3.ensures.ok) c.in_err-put_message.ensures.err)

pub returns-in_err-put-4-clause-err : goal.returns-in_err-put-4-clause-err
returns-in_err-put-4-clause-err c =
    on_err c.from_residual-in_err-put-4.result _
    (cut_here _ _ _ _ _ (end_message (with_texts (file_of c.args.file.now) c.args.texts.now) c.args.msg c.args.end.now c.args.name.now c.args.text.now.items
    c.put.new.text.items c.put-2.new.text.items c.put-3.new.text.items c.put_message.new.text.items
    c.in_ok-put.ensures.ok c.in_ok-put-2.ensures.ok c.in_ok-put-3.ensures.ok c.in_ok-put_message.ensures.ok) c.in_err-put-4.ensures.err)

pub returns-in_err-put-5-clause-err : goal.returns-in_err-put-5-clause-err
returns-in_err-put-5-clause-err c =
    on_err c.from_residual-in_err-put-5.result _
    (cut_here _ _ _ _ _ (end_space (with_texts (file_of c.args.file.now) c.args.texts.now) c.args.msg c.args.end.now c.args.name.now c.args.text.now.items
    c.put.new.text.items c.put-2.new.text.items c.put-3.new.text.items c.put_message.new.text.items c.put-4.new.text.items
    c.in_ok-put.ensures.ok c.in_ok-put-2.ensures.ok c.in_ok-put-3.ensures.ok c.in_ok-put_message.ensures.ok c.in_ok-put-4.ensures.ok) c.in_err-put-5.ensures.err)

pub returns-clause-ok : goal.returns-clause-ok
returns-clause-ok c =
    finish_ok _ _ _ _ _ c.put-6.result
    (end_name (with_texts (file_of c.args.file.now) c.args.texts.now) c.args.msg c.args.end.now c.args.name.now c.args.text.now.items
    c.put.new.text.items c.put-2.new.text.items c.put-3.new.text.items c.put_message.new.text.items c.put-4.new.text.items c.put-5.new.text.items
    c.in_ok-put.ensures.ok c.in_ok-put-2.ensures.ok c.in_ok-put-3.ensures.ok c.in_ok-put_message.ensures.ok c.in_ok-put-4.ensures.ok c.in_ok-put-5.ensures.ok)
    c.put-6.ensures.ok

pub returns-clause-err : goal.returns-clause-err
returns-clause-err c =
    on_err_weaker c.put-6.result
    (λ same. cut_here _ _ _ _ _ (end_name (with_texts (file_of c.args.file.now) c.args.texts.now) c.args.msg c.args.end.now c.args.name.now c.args.text.now.items
    c.put.new.text.items c.put-2.new.text.items c.put-3.new.text.items c.put_message.new.text.items c.put-4.new.text.items c.put-5.new.text.items
    c.in_ok-put.ensures.ok c.in_ok-put-2.ensures.ok c.in_ok-put-3.ensures.ok c.in_ok-put_message.ensures.ok c.in_ok-put-4.ensures.ok c.in_ok-put-5.ensures.ok) same)
    c.put-6.ensures.err
