use Rattle.std.proofs.Common.{map}
use Rattle.sj_lang.specs.FileView.{file_of}
use Rattle.sj_semantics.specs.Lines.{line_of, message_words}
use Rattle.sj_print.specs.Pieces.{piece_text, closed_words}
use Rattle.sj_text.proofs.CutLemmas.{cut_in_first, whole_is, on_err, ok_behind, err_behind, ok_whole, err_whole}
use Rattle.sj_print.proofs.WordLemmas.{message_behind}
use Rattle.sj_print.proofs.messages.put_message_line.Goals as goal

pub returns-in_err-put_spaced-clause-err : goal.returns-in_err-put_spaced-clause-err
returns-in_err-put_spaced-clause-err c =
    let file = file_of c.args.file.now in let ws = map (piece_text file) c.args.front.now in let rest = line_of (message_words file c.args.msg.now) in
    let old = c.args.text.now.items in let new = c.put_spaced.new.text.items in
    on_err c.from_residual.result _ (whole_is old _ _ new (message_behind ws file c.args.msg.now) (cut_in_first old (closed_words ws) rest new c.in_err-put_spaced.ensures.err))

pub returns-clause-ok : goal.returns-clause-ok
returns-clause-ok c =
    let file = file_of c.args.file.now in let ws = map (piece_text file) c.args.front.now in let rest = line_of (message_words file c.args.msg.now) in
    let old = c.args.text.now.items in let mid = c.put_spaced.new.text.items in let new = c.put_message.new.text.items in
    ok_whole old _ _ new c.put_message.result (message_behind ws file c.args.msg.now)
    (ok_behind old (closed_words ws) rest mid new c.put_message.result c.in_ok-put_spaced.ensures.ok c.put_message.ensures.ok)

pub returns-clause-err : goal.returns-clause-err
returns-clause-err c =
    let file = file_of c.args.file.now in let ws = map (piece_text file) c.args.front.now in let rest = line_of (message_words file c.args.msg.now) in
    let old = c.args.text.now.items in let mid = c.put_spaced.new.text.items in let new = c.put_message.new.text.items in
    err_whole old _ _ new c.put_message.result (message_behind ws file c.args.msg.now)
    (err_behind old (closed_words ws) rest mid new c.put_message.result c.in_ok-put_spaced.ensures.ok c.put_message.ensures.err)
