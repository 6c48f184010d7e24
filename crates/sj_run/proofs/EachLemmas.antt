-- Lists that are related index by index.
use Rattle.std.proofs.Common.{◌≡◌, ℕ, zero, suc, List, [], ◌∷◌, length, Some, subst, arith}
use Rattle.std.specs.Prelude.{slice_get}
use Rattle.sj_steal.specs.Runs.{Each2}

module _ {X Y : Type 0} (R : X → Y → Type 0) where
  -- what is at one index of both is related
  pub each2_get : (xs : List X) (ys : List Y) (i : ℕ) (x : X) (y : Y) → Each2 R xs ys → slice_get xs i ≡ Some x → slice_get ys i ≡ Some y → R x y
  each2_get [] ys i x y a is there = absurd (cc is)
  each2_get (w ∷ xs) [] i x y a is there = absurd a
  each2_get (w ∷ xs) (z ∷ ys) zero x y a is there = let e : w ≡ x = cc is in let f : z ≡ y = cc there in subst (λ u. R u y) e (subst (R w) f a.0)
  each2_get (w ∷ xs) (z ∷ ys) (suc i) x y a is there = each2_get xs ys i x y a.1 is there

  -- where that holds at each index, they are related
  pub each2_from : (xs : List X) (ys : List Y) → length ys ≡ length xs → ((i : ℕ) (x : X) (y : Y) → slice_get xs i ≡ Some x → slice_get ys i ≡ Some y → R x y)
      → Each2 R xs ys
  each2_from [] [] n h = tt
  each2_from [] (y ∷ ys) n h = absurd (omega arith)
  each2_from (x ∷ xs) [] n h = absurd (omega arith)
  each2_from (x ∷ xs) (y ∷ ys) n h = (h zero x y (cc tt) (cc tt), each2_from xs ys (omega arith) (λ i v w. h (suc i) v w))
