use Rattle.std.proofs.Common.{[], ◌∷◌}
use Rattle.sj_lang.specs.FileView.{file_of}
use Rattle.sj_print.specs.Pieces.{message_text}
use Rattle.sj_text.proofs.CutLemmas.{cut_in_first, whole_is, on_err, ok_behind, err_at_once, err_behind, ok_whole, err_whole}
use Rattle.sj_print.proofs.JoinLemmas.{message_line}
use Rattle.sj_print.proofs.messages.put_message.Goals as goal

pub returns-in_err-print_message-clause-err : goal.returns-in_err-print_message-clause-err
returns-in_err-print_message-clause-err c =
    let file = file_of c.args.file.now in let m = c.args.msg.now in let old = c.args.text.now.items in let new = c.print_message.new.text.items in
    on_err c.from_residual.result _ (whole_is old _ _ new (message_line file m) (cut_in_first old (message_text file m) (10 ∷ []) new c.in_err-print_message.ensures.err))

pub returns-clause-ok : goal.returns-clause-ok
returns-clause-ok c =
    let file = file_of c.args.file.now in let m = c.args.msg.now in
    let old = c.args.text.now.items in let mid = c.print_message.new.text.items in let new = c.put_byte.new.text.items in
    ok_whole old _ _ new c.put_byte.result (message_line file m)
    (ok_behind old (message_text file m) (10 ∷ []) mid new c.put_byte.result c.in_ok-print_message.ensures.ok c.put_byte.ensures.ok)

pub returns-clause-err : goal.returns-clause-err
returns-clause-err c =
    let file = file_of c.args.file.now in let m = c.args.msg.now in
    let old = c.args.text.now.items in let mid = c.print_message.new.text.items in let new = c.put_byte.new.text.items in
    err_whole old _ _ new c.put_byte.result (message_line file m)
    (err_behind old (message_text file m) (10 ∷ []) mid new c.put_byte.result c.in_ok-print_message.ensures.ok (err_at_once mid (10 ∷ []) new c.put_byte.result c.put_byte.ensures.err))
