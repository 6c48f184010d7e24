use Rattle.std.proofs.Common.{◌∷◌, ap}
use Rattle.std.specs.Prelude.{decimal}
use Rattle.sj_lang.specs.FileView.{file_of}
use Rattle.sj_semantics.specs.Lines.{line_of, name_of, end_text, message_words}
use Rattle.sj_text.proofs.CutLemmas.{ok_whole, err_whole}
use Rattle.sj_print.proofs.lines.put_passed.Goals as goal

pub returns-clause-ok : goal.returns-clause-ok
returns-clause-ok c =
    let file = file_of c.args.file.now in let m = c.args.passed.now.msg in
    let end = end_text c.args.end.sess c.args.end.side in let n = decimal c.args.number in let by = name_of file c.args.passed.now.by in
    ok_whole c.args.text.now.items _ _ c.put_message_line.new.text.items c.put_message_line.result
    (ap (λ x. line_of (end ∷ n ∷ by ∷ x ∷ message_words file m)) (c.taker_piece.ensures file)) c.put_message_line.ensures.ok

pub returns-clause-err : goal.returns-clause-err
returns-clause-err c =
    let file = file_of c.args.file.now in let m = c.args.passed.now.msg in
    let end = end_text c.args.end.sess c.args.end.side in let n = decimal c.args.number in let by = name_of file c.args.passed.now.by in
    err_whole c.args.text.now.items _ _ c.put_message_line.new.text.items c.put_message_line.result
    (ap (λ x. line_of (end ∷ n ∷ by ∷ x ∷ message_words file m)) (c.taker_piece.ensures file)) c.put_message_line.ensures.err
