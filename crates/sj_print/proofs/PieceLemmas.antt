-- Pieces of lines, one after another.
use Rattle.std.proofs.Common.{◌≡◌, ℕ, ◌+◌, ◌<◌, List, [], ◌∷◌, ◌++◌, length, drop, get_or, map, refl, ap, ◌∙◌, append_assoc}
use Rattle.std.proofs.lemmas.List.{at_drop_more}
use Rattle.sj_lang.specs.FileAt.{FileAt}
use Rattle.sj_semantics.specs.Lines.{line_of}
use Rattle.sj_print.specs.declared.pieces.Piece.{Piece}
use Rattle.sj_print.specs.Pieces.{piece_text, spaced_text}

-- the next piece is ahead, and its space
pub spaced_step : (file : FileAt) (ps : List Piece) (i : ℕ) (d : Piece) → i < length ps
    → spaced_text file (drop i ps) ≡ piece_text file (get_or ps i d) ++ (32 ∷ [] ++ spaced_text file (drop (i + 1) ps))
spaced_step file ps i d h = at_drop_more (spaced_text file) ps i d h

-- a line is its last piece and a newline after the others
pub line_apart : (file : FileAt) (ps : List Piece) (last : Piece)
    → spaced_text file ps ++ (piece_text file last ++ 10 ∷ []) ≡ line_of (map (piece_text file) (ps ++ last ∷ []))
line_apart file [] last = refl
line_apart file (p ∷ []) last = append_assoc (piece_text file p) (32 ∷ []) (piece_text file last ++ 10 ∷ [])
line_apart file (p ∷ q ∷ ps) last =
    append_assoc (piece_text file p) (32 ∷ spaced_text file (q ∷ ps)) (piece_text file last ++ 10 ∷ [])
    ∙ ap (λ r. piece_text file p ++ 32 ∷ r) (line_apart file (q ∷ ps) last)
