use Rattle.sj_lang.specs.FileView.{file_of}
use Rattle.sj_print.specs.Pieces.{piece_text, spaced_text}
use Rattle.sj_text.proofs.CutLemmas.{cut_in_first, whole_is, on_err, ok_behind, err_behind, ok_whole, err_whole}
use Rattle.sj_print.proofs.JoinLemmas.{words_apart}
use Rattle.sj_print.proofs.pieces.put_words.Goals as goal

pub returns-in_err-put_spaced-clause-err : goal.returns-in_err-put_spaced-clause-err
returns-in_err-put_spaced-clause-err c =
    let file = file_of c.args.file.now in let ps = c.args.front.now in let old = c.args.text.now.items in let new = c.put_spaced.new.text.items in
    on_err c.from_residual.result _ (whole_is old _ _ new (words_apart file ps c.args.last) (cut_in_first old (spaced_text file ps) (piece_text file c.args.last) new c.in_err-put_spaced.ensures.err))

pub returns-clause-ok : goal.returns-clause-ok
returns-clause-ok c =
    let file = file_of c.args.file.now in let ps = c.args.front.now in
    let old = c.args.text.now.items in let mid = c.put_spaced.new.text.items in let new = c.put_piece.new.text.items in
    ok_whole old _ _ new c.put_piece.result (words_apart file ps c.args.last)
    (ok_behind old (spaced_text file ps) (piece_text file c.args.last) mid new c.put_piece.result c.in_ok-put_spaced.ensures.ok c.put_piece.ensures.ok)

pub returns-clause-err : goal.returns-clause-err
returns-clause-err c =
    let file = file_of c.args.file.now in let ps = c.args.front.now in
    let old = c.args.text.now.items in let mid = c.put_spaced.new.text.items in let new = c.put_piece.new.text.items in
    err_whole old _ _ new c.put_piece.result (words_apart file ps c.args.last)
    (err_behind old (spaced_text file ps) (piece_text file c.args.last) mid new c.put_piece.result c.in_ok-put_spaced.ensures.ok c.put_piece.ensures.err)
