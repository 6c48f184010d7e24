-- Pieces that are alike, and where a list of statements or of arms ends.
use Rattle.std.specs.Prelude.{◌≡◌, ℕ, Bool, false, List, [], ◌∷◌, codes, Option, Some, None}
use Rattle.sj_grammar.specs.Names.{is_among, is_name}
use Rattle.sj_grammar.specs.Positions.{Pieces, Piece}

-- one line, where both say which
abbrev pub OnOneLine : Option ℕ → Option ℕ → Type 0
OnOneLine None k = Unit {0}
OnOneLine (Some l) None = Unit {0}
OnOneLine (Some l) (Some k) = l ≡ k

-- spelled alike, and on one line
abbrev pub AreAlike : List Piece → List Piece → Type 0
AreAlike [] [] = Unit {0}
AreAlike [] (q ∷ qs) = ⊥
AreAlike (p ∷ ps) [] = ⊥
AreAlike (p ∷ ps) (q ∷ qs) = (p.spelled ≡ q.spelled) × OnOneLine p.line q.line × AreAlike ps qs

-- the words that statements begin with
abbrev pub keywords : Pieces
keywords =
    codes "send" ∷ codes "delegate" ∷ codes "recv" ∷ codes "outbranch" ∷ codes "inbranch" ∷ codes "outwhile" ∷ codes "inwhile" ∷ codes "relay" ∷ codes "if" ∷ codes "let" ∷ codes "close" ∷ codes "request" ∷ codes "accept" ∷ []

unfoldable pub is_keyword : List ℕ → Bool
is_keyword s = is_among keywords s

-- no statement begins there
abbrev pub EndsCode : List Piece → Type 0
EndsCode [] = Unit {0}
EndsCode (p ∷ ps) = is_keyword p.spelled ≡ false

-- no arm begins there
abbrev pub EndsArms : List Piece → Type 0
EndsArms [] = Unit {0}
EndsArms (p ∷ ps) = is_name p.spelled ≡ false
