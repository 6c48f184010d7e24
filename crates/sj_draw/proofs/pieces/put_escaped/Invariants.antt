use Rattle.std.proofs.Common.{◌≡◌, ◌++◌, drop}
use Rattle.sj_draw.specs.Piece.{escaped}
use Rattle.sj_draw.proofs.pieces.put_escaped.Given as goal

-- with what is left it is the whole
abbrev pub invariant-loop-b : goal.invariant-loop-b
invariant-loop-b l = l.text.items ++ escaped (drop l.b-index l.bytes) ≡ l.fn.text.items ++ escaped l.bytes
