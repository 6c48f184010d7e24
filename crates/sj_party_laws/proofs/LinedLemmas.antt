-- Tokens on the lines on which they stand, and pieces that are alike.
use Rattle.std.proofs.Common.{◌≡◌, ℕ, List, [], ◌∷◌, ◌++◌, IfSome, Option, Some, None, refl, ap, sym, ◌∙◌}
use Rattle.sj_grammar.specs.Lexis.{token}
use Rattle.sj_grammar.specs.Reading.{passed, line_number}
use Rattle.sj_grammar.specs.Positions.{Pieces, Piece, At, past, Takes, TakesPiece, Begins, BeginsOnLines, first_on, spellings}
use Rattle.sj_party.specs.Alike.{OnOneLine, AreAlike}

-- the line on which the next token begins
abbrev pub line_of : (a m : At) (s : List ℕ) → Takes a s m → ℕ
line_of a m s t = line_number (passed a.text (s ++ t.rest))

-- each token on its line
abbrev pub lined : (ps : Pieces) (a b : At) → Begins a ps b → List Piece
lined [] a b h = []
lined (s ∷ ps) a b h = first_on (line_of a h.0 s h.1) s ∷ lined ps h.0 b h.2

pub lined_spelled : (ps : Pieces) (a b : At) (h : Begins a ps b) → spellings (lined ps a b h) ≡ ps
lined_spelled [] a b h = refl
lined_spelled (s ∷ ps) a b h = ap (λ (x : Pieces). s ∷ x) (lined_spelled ps h.0 b h.2)

-- the piece of a token
piece_taken : (a m : At) (s : List ℕ) (p : Piece) (t : Takes a s m) → p.spelled ≡ s → OnOneLine p.line (Some (line_of a m s t)) → TakesPiece a p m
piece_taken a m s p t e on = record {
  taken = record { what = t.what; rest = t.rest; token = t.token ∙ ap (λ x. token t.what x t.rest) (sym e); there = t.there ∙ ap (λ x. past a x t.rest) (sym e) };
  line = by_line p.line on;
}
  where
    by_line : (l : Option ℕ) → OnOneLine l (Some (line_of a m s t)) → IfSome l (λ l. l ≡ line_number (passed a.text (p.spelled ++ t.rest)))
    by_line None h = tt
    by_line (Some l) h = h ∙ ap (λ x. line_number (passed a.text (x ++ t.rest))) (sym e)

-- pieces that are alike stand there, each on its line
pub begins_alike : (ps : Pieces) (a b : At) (h : Begins a ps b) (qs : List Piece) → AreAlike qs (lined ps a b h) → BeginsOnLines a qs b
begins_alike [] a b h [] k = h
begins_alike [] a b h (q ∷ qs) k = absurd k
begins_alike (s ∷ ps) a b h [] k = absurd k
begins_alike (s ∷ ps) a b h (q ∷ qs) k = (h.0, piece_taken a h.0 s q h.1 k.0 k.1, begins_alike ps h.0 b h.2 qs k.2)
