use Rattle.std.proofs.Common.{drop}
use Rattle.sj_lang.specs.FileView.{file_of}
use Rattle.sj_print.specs.Pieces.{spaced_text}
use Rattle.sj_text.proofs.CutLemmas.{StillTo}
use Rattle.sj_print.proofs.pieces.put_spaced.Given as goal

-- what is ahead is the pieces that are left
abbrev pub invariant-loop-piece : goal.invariant-loop-piece
invariant-loop-piece l =
    StillTo l.fn.text.items (spaced_text (file_of l.file) l.front) (spaced_text (file_of l.file) (drop l.piece-index l.front)) l.text.items
