-- What is put last on a list.
use Rattle.std.proofs.Common.{◌≡◌, ℕ, suc, ◌+◌, List, [], ◌∷◌, ◌++◌, length, slice_get, Some, refl, ap, sym, ◌∙◌, arith, length-append}
use Rattle.sj_semantics.specs.declared.Passed.{Passed}

-- it stands after as many as there were
pub slice_get-last : (xs : List Passed) (qs : List ℕ) (x : Passed) → length xs ≡ length qs → slice_get (xs ++ x ∷ []) (length qs) ≡ Some x
slice_get-last [] [] x e = refl
slice_get-last [] (q ∷ qs) x e = cc
slice_get-last (y ∷ xs) [] x e = cc
slice_get-last (y ∷ xs) (q ∷ qs) x e = slice_get-last xs qs x (let it : length xs ≡ length qs = cc in it)

-- one more of a list
pub one_more : {X : Type 0} (xs : List X) (x : X) → length (xs ++ x ∷ []) ≡ suc (length xs)
one_more xs x = length-append xs (x ∷ []) ∙ (let e : length xs + 1 ≡ suc (length xs) = omega arith in e)

pub both_more : {X Y : Type 0} (xs : List X) (ys : List Y) (x : X) (y : Y) → length xs ≡ length ys → length (xs ++ x ∷ []) ≡ length (ys ++ y ∷ [])
both_more xs ys x y e = one_more xs x ∙ ap suc e ∙ sym (one_more ys y)
