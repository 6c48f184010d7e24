use Rattle.std.proofs.lemmas.Result.{on_err_weaker, on_ok_weaker}
use Rattle.sj_lang.specs.FileView.{file_of}
use Rattle.sj_text.proofs.CutLemmas.{on_err}
use Rattle.sj_talk.proofs.BreakLemmas.{took_cut, took_line, took_open}
use Rattle.sj_talk.proofs.output.put_took.Goals as goal

pub returns-clause-ok : goal.returns-clause-ok
returns-clause-ok c =
    on_ok_weaker c.put-2.result
    (λ last. took_line (file_of c.args.file.now) c.args.msg.now c.args.text.now.items c.put.new.text.items c.print_message.new.text.items c.put-2.new.text.items c.in_ok-put.ensures.ok c.in_ok-print_message.ensures.ok last)
    c.put-2.ensures.ok

pub returns-clause-err : goal.returns-clause-err
returns-clause-err c =
    on_err_weaker c.put-2.result
    (λ same. took_open (file_of c.args.file.now) c.args.msg.now c.args.text.now.items c.put.new.text.items c.print_message.new.text.items c.put-2.new.text.items c.in_ok-put.ensures.ok c.in_ok-print_message.ensures.ok same)
    c.put-2.ensures.err

pub returns-in_err-print_message-clause-err : goal.returns-in_err-print_message-clause-err
returns-in_err-print_message-clause-err c =
    on_err c.from_residual-in_err-print_message.result _ (took_cut (file_of c.args.file.now) c.args.msg.now c.args.text.now.items c.put.new.text.items c.print_message.new.text.items c.in_ok-put.ensures.ok c.in_err-print_message.ensures.err)
