-- Lists of two.
use Rattle.std.proofs.Common.{◌≡◌, ◌≤◌, ◌<◌, List, [], ◌∷◌, get_or, length, refl, arith}

pub two_of : {X : Type 0} (xs : List X) (d e : X) → 2 ≤ length xs → length xs < 3 → xs ≡ get_or xs 0 d ∷ get_or xs 1 e ∷ []
two_of [] d e more less = absurd (omega (arith, more))
two_of (x ∷ []) d e more less = absurd (omega (arith, more))
two_of (x ∷ y ∷ []) d e more less = refl
two_of (x ∷ y ∷ z ∷ xs) d e more less = absurd (omega (arith, less))
