use Rattle.std.proofs.Common.{◌≡◌, ◌++◌, drop}
use Rattle.sj_draw.specs.Piece.{pieces_text}
use Rattle.sj_draw.proofs.pieces.put_pieces.Given as goal

-- with what is left it is the whole
abbrev pub invariant-loop-piece : goal.invariant-loop-piece
invariant-loop-piece l = l.text.items ++ pieces_text (drop l.piece-index l.pieces) ≡ l.fn.text.items ++ pieces_text l.pieces
