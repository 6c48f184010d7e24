use Rattle.std.proofs.Common.{◌++◌, [], ◌∷◌, ◌+◌, drop}
use Rattle.sj_lang.specs.FileView.{file_of}
use Rattle.sj_print.specs.Pieces.{spaced_text}
use Rattle.sj_text.proofs.CutLemmas.{ahead_is, one_more, cut_within, cut_here, on_err}
use Rattle.sj_print.proofs.PieceLemmas.{spaced_step}
use Rattle.sj_print.proofs.pieces.put_spaced.Goals as goal

pub returns-in_err-put_piece-clause-err : goal.returns-in_err-put_piece-clause-err
returns-in_err-put_piece-clause-err c =
    let file = file_of c.args.file.now in let ps = c.args.front.now in let i = c.loop-piece.piece-index in
    let old = c.args.text.now.items in let whole = spaced_text file ps in
    let behind = 32 ∷ [] ++ spaced_text file (drop (i + 1) ps) in
    let before = ahead_is old whole _ _ c.loop-piece.text.items (spaced_step file ps i _ c.loop-piece-test.true) c.loop-piece.invariant in
    on_err c.from_residual.result _ (cut_within old whole _ behind c.loop-piece.text.items c.put_piece.new.text.items before c.in_err-put_piece.ensures.err)

pub returns-in_err-put_byte-clause-err : goal.returns-in_err-put_byte-clause-err
returns-in_err-put_byte-clause-err c =
    let file = file_of c.args.file.now in let ps = c.args.front.now in let i = c.loop-piece.piece-index in
    let old = c.args.text.now.items in let whole = spaced_text file ps in let rest = spaced_text file (drop (i + 1) ps) in
    let before = ahead_is old whole _ _ c.loop-piece.text.items (spaced_step file ps i _ c.loop-piece-test.true) c.loop-piece.invariant in
    let mid = one_more old whole _ (32 ∷ [] ++ rest) c.loop-piece.text.items c.put_piece.new.text.items before c.in_ok-put_piece.ensures.ok in
    on_err c.from_residual-in_err-put_byte.result _ (cut_here old whole (32 ∷ [] ++ rest) c.put_piece.new.text.items c.put_byte.new.text.items mid c.in_err-put_byte.ensures.err)
