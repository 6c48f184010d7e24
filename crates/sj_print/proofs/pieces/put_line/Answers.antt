use Rattle.std.proofs.Common.{◌++◌, [], ◌∷◌, map, sym}
use Rattle.sj_lang.specs.FileView.{file_of}
use Rattle.sj_semantics.specs.Lines.{line_of}
use Rattle.sj_print.specs.Pieces.{piece_text, spaced_text}
use Rattle.sj_text.proofs.CutLemmas.{none_yet, ahead_is, one_more, cut_within, on_err, err_at_once, finish_ok, finish_cut}
use Rattle.sj_print.proofs.PieceLemmas.{line_apart}
use Rattle.sj_print.proofs.pieces.put_line.Goals as goal

pub returns-in_err-put_spaced-clause-err : goal.returns-in_err-put_spaced-clause-err
returns-in_err-put_spaced-clause-err c =
    let file = file_of c.args.file.now in let ps = c.args.front.now in let last = piece_text file c.args.last in let old = c.args.text.now.items in
    let whole = line_of (map (piece_text file) (ps ++ c.args.last ∷ [])) in
    let start = ahead_is old whole whole (spaced_text file ps ++ (last ++ 10 ∷ [])) old (sym (line_apart file ps c.args.last)) (none_yet old whole) in
    on_err c.from_residual.result _ (cut_within old whole (spaced_text file ps) (last ++ 10 ∷ []) old c.put_spaced.new.text.items start c.in_err-put_spaced.ensures.err)

pub returns-in_err-put_piece-clause-err : goal.returns-in_err-put_piece-clause-err
returns-in_err-put_piece-clause-err c =
    let file = file_of c.args.file.now in let ps = c.args.front.now in let last = piece_text file c.args.last in let old = c.args.text.now.items in
    let whole = line_of (map (piece_text file) (ps ++ c.args.last ∷ [])) in
    let start = ahead_is old whole whole (spaced_text file ps ++ (last ++ 10 ∷ [])) old (sym (line_apart file ps c.args.last)) (none_yet old whole) in
    let mid = one_more old whole (spaced_text file ps) (last ++ 10 ∷ []) old c.put_spaced.new.text.items start c.in_ok-put_spaced.ensures.ok in
    on_err c.from_residual-in_err-put_piece.result _ (cut_within old whole last (10 ∷ []) c.put_spaced.new.text.items c.put_piece.new.text.items mid c.in_err-put_piece.ensures.err)

pub returns-clause-ok : goal.returns-clause-ok
returns-clause-ok c =
    let file = file_of c.args.file.now in let ps = c.args.front.now in let last = piece_text file c.args.last in let old = c.args.text.now.items in
    let whole = line_of (map (piece_text file) (ps ++ c.args.last ∷ [])) in
    let start = ahead_is old whole whole (spaced_text file ps ++ (last ++ 10 ∷ [])) old (sym (line_apart file ps c.args.last)) (none_yet old whole) in
    let mid = one_more old whole (spaced_text file ps) (last ++ 10 ∷ []) old c.put_spaced.new.text.items start c.in_ok-put_spaced.ensures.ok in
    let end = one_more old whole last (10 ∷ []) c.put_spaced.new.text.items c.put_piece.new.text.items mid c.in_ok-put_piece.ensures.ok in
    finish_ok old whole (10 ∷ []) c.put_piece.new.text.items c.put_byte.new.text.items c.put_byte.result end c.put_byte.ensures.ok

pub returns-clause-err : goal.returns-clause-err
returns-clause-err c =
    let file = file_of c.args.file.now in let ps = c.args.front.now in let last = piece_text file c.args.last in let old = c.args.text.now.items in
    let whole = line_of (map (piece_text file) (ps ++ c.args.last ∷ [])) in
    let start = ahead_is old whole whole (spaced_text file ps ++ (last ++ 10 ∷ [])) old (sym (line_apart file ps c.args.last)) (none_yet old whole) in
    let mid = one_more old whole (spaced_text file ps) (last ++ 10 ∷ []) old c.put_spaced.new.text.items start c.in_ok-put_spaced.ensures.ok in
    let end = one_more old whole last (10 ∷ []) c.put_spaced.new.text.items c.put_piece.new.text.items mid c.in_ok-put_piece.ensures.ok in
    finish_cut old whole (10 ∷ []) c.put_piece.new.text.items c.put_byte.new.text.items c.put_byte.result end (err_at_once c.put_piece.new.text.items (10 ∷ []) c.put_byte.new.text.items c.put_byte.result c.put_byte.ensures.err)
