-- What doesn't go on an expression.
use Rattle.std.specs.Prelude.{◌≡◌, ℕ, Bool, false, ◌||◌, List, [], ◌∷◌, codes}
use Rattle.std.specs.Str.{bytes_eq}
use Rattle.sj_grammar.specs.Positions.{Pieces}

-- between two operands
abbrev pub is_operator : List ℕ → Bool
is_operator s = bytes_eq s (codes "*") || (bytes_eq s (codes "+") || (bytes_eq s (codes "-") || (bytes_eq s (codes "<") || (bytes_eq s (codes "<=") || bytes_eq s (codes "==")))))

-- the pieces don't begin with an operator
abbrev pub Ends : Pieces → Type 0
Ends [] = Unit {0}
Ends (s ∷ ps) = is_operator s ≡ false
