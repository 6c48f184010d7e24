use Rattle.sj_lang.specs.FileView.{file_of}
use Rattle.sj_talk.specs.Names.{with_texts}
use Rattle.sj_text.proofs.CutLemmas.{cut_within, finish_ok, on_err}
use Rattle.sj_seat_lines.proofs.ReplyLemmas.{took_gap, took_message}
use Rattle.sj_seat_lines.proofs.replies.put_took.Goals as goal

pub returns-in_err-put_message-clause-err : goal.returns-in_err-put_message-clause-err
returns-in_err-put_message-clause-err c =
    on_err c.from_residual-in_err-put_message.result _
    (cut_within _ _ _ _ _ _ (took_gap (with_texts (file_of c.args.file.now) c.args.texts.now) c.args.msg c.args.end.now c.args.text.now.items
    c.put.new.text.items c.put-2.new.text.items c.put-3.new.text.items
    c.in_ok-put.ensures.ok c.in_ok-put-2.ensures.ok c.in_ok-put-3.ensures.ok) c.in_err-put_message.ensures.err)

pub returns-clause-ok : goal.returns-clause-ok
returns-clause-ok c =
    finish_ok _ _ _ _ _ c.put-4.result
    (took_message (with_texts (file_of c.args.file.now) c.args.texts.now) c.args.msg c.args.end.now c.args.text.now.items
    c.put.new.text.items c.put-2.new.text.items c.put-3.new.text.items c.put_message.new.text.items
    c.in_ok-put.ensures.ok c.in_ok-put-2.ensures.ok c.in_ok-put-3.ensures.ok c.in_ok-put_message.ensures.ok)
    c.put-4.ensures.ok
