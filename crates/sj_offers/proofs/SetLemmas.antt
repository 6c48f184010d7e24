-- A list in which one item was put for another.
use Rattle.std.proofs.Common.{◌≡◌, ◌≢◌, ℕ, zero, suc, ◌<◌, List, [], ◌∷◌, length, slice_get, Some, refl, ap, arith}
use Rattle.std.proofs.Math.ListN.{set}

pub set_here : {X : Type 0} (xs : List X) (n : ℕ) (x : X) → n < length xs → slice_get (set xs n x) n ≡ Some x
set_here [] n x lt = absurd (omega arith)
set_here (y ∷ ys) zero x lt = refl
set_here (y ∷ ys) (suc n) x lt = set_here ys n x (omega arith)

pub set_there : {X : Type 0} (xs : List X) (n m : ℕ) (x : X) → m ≢ n → slice_get (set xs n x) m ≡ slice_get xs m
set_there [] n m x ne = refl
set_there (y ∷ ys) zero zero x ne = absurd (ne refl)
set_there (y ∷ ys) zero (suc m) x ne = refl
set_there (y ∷ ys) (suc n) zero x ne = refl
set_there (y ∷ ys) (suc n) (suc m) x ne = set_there ys n m x (λ e. ne (ap suc e))
