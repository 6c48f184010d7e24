-- Lists made of pieces, in another order.
use Rattle.std.proofs.Common.{◌≡◌, ℕ, zero, suc, ◌<◌, List, [], ◌∷◌, ◌++◌, length}
use Rattle.std.proofs.Common.{get_or, set, sym, refl, ap, subst, append_assoc, append-nil, flat_map, arith}
use Rattle.std.specs.List.Sorted.{IsPermutation}
use Rattle.std.proofs.lemmas.List.Sorted.{IsPermutation-refl, IsPermutation-trans}
use Rattle.std.proofs.lemmas.List.Sorted.{IsPermutation-append_left, IsPermutation-append_right, IsPermutation-append_comm}

module _ {X : Type 0} where
  -- the last two of three pieces, changed about
  pub swaps_last : (a b c : List X) → IsPermutation ((a ++ b) ++ c) ((a ++ c) ++ b)
  swaps_last a b c =
      subst (λ l. IsPermutation l ((a ++ c) ++ b)) (sym (append_assoc a b c))
      (subst (IsPermutation (a ++ (b ++ c))) (sym (append_assoc a c b)) (IsPermutation-append_right a _ _ (IsPermutation-append_comm b c)))

  -- one piece that is exchanged, where what it gains or loses is added on the other side
  pub exchanges : {Y : Type 0} → (f : Y → List X) (ys : List Y) (i : ℕ) (y z : Y) (us vs : List X) → i < length ys → y ≡ get_or ys i y →
      IsPermutation (f z ++ us) (f y ++ vs) → IsPermutation (flat_map f (set ys i z) ++ us) (flat_map f ys ++ vs)
  exchanges f [] i y z us vs in' is h = absurd (omega arith)
  exchanges f (w ∷ ys) zero y z us vs in' is h =
      let there : IsPermutation (f z ++ us) (f w ++ vs) = subst (λ a. IsPermutation (f z ++ us) (f a ++ vs)) is h in
      IsPermutation-trans _ _ _ (swaps_last (f z) (flat_map f ys) us)
      (IsPermutation-trans _ _ _ (IsPermutation-append_left (flat_map f ys) _ _ there) (swaps_last (f w) vs (flat_map f ys)))
  exchanges f (w ∷ ys) (suc i) y z us vs in' is h =
      let rest = exchanges f ys i y z us vs (omega arith) is h in
      subst (λ l. IsPermutation l ((f w ++ flat_map f ys) ++ vs)) (sym (append_assoc (f w) (flat_map f (set ys i z)) us))
      (subst (IsPermutation (f w ++ (flat_map f (set ys i z) ++ us))) (sym (append_assoc (f w) (flat_map f ys) vs))
      (IsPermutation-append_right (f w) _ _ rest))

  -- it only gains
  pub gains : {Y : Type 0} → (f : Y → List X) (ys : List Y) (i : ℕ) (y z : Y) (vs : List X) → i < length ys → y ≡ get_or ys i y →
      f z ≡ f y ++ vs → IsPermutation (flat_map f (set ys i z)) (flat_map f ys ++ vs)
  gains f ys i y z vs in' is h =
      subst (λ l. IsPermutation l (flat_map f ys ++ vs)) (append-nil (flat_map f (set ys i z)))
      (exchanges f ys i y z [] vs in' is (subst (λ l. IsPermutation (f z ++ []) l) h
      (subst (IsPermutation (f z ++ [])) (append-nil (f z)) (IsPermutation-refl (f z ++ [])))))

  -- it stays
  pub stays : {Y : Type 0} → (f : Y → List X) (ys : List Y) (i : ℕ) (y z : Y) → y ≡ get_or ys i y → f z ≡ f y →
      flat_map f (set ys i z) ≡ flat_map f ys
  stays f [] i y z is h = refl
  stays f (w ∷ ys) zero y z is h = ap (λ l. l ++ flat_map f ys) (subst (λ a. f z ≡ f a) is h)
  stays f (w ∷ ys) (suc i) y z is h = ap (λ l. f w ++ l) (stays f ys i y z is h)
