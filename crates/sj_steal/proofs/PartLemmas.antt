-- What holds of the first elements of a list and of the others, step by step.
use Rattle.std.proofs.Common.{◌≡◌, ℕ, zero, suc, ◌+◌, ◌<◌, ◌≤◌, List, [], ◌∷◌, length, get_or, set, sym, refl, ap, ◌∙◌, subst, add-one, arith}
use Rattle.std.specs.List.{AllByRecursion}
use Rattle.sj_steal.specs.Runs.{Each2}
use Rattle.sj_steal.specs.Parts.{Downto, Parted, Upto}

module _ {X : Type 0} (P Q : X → Type 0) where
  pub parted_start : (xs : List X) → AllByRecursion Q xs → Parted P Q 0 xs
  parted_start [] a = tt
  parted_start (x ∷ xs) a = (a.0, parted_start xs a.1)

  pub parted_more : (xs : List X) (i : ℕ) (z : X) → P z → Parted P Q i xs → Parted P Q (suc i) (set xs i z)
  parted_more [] i z p a = tt
  parted_more (x ∷ xs) zero z p a = (p, a.1)
  parted_more (x ∷ xs) (suc i) z p a = (a.0, parted_more xs i z p a.1)

  pub parted_next : (xs : List X) (i : ℕ) (z : X) → P z → Parted P Q i xs → Parted P Q (i + 1) (set xs i z)
  parted_next xs i z p a = rw add-one (parted_more xs i z p a)

  pub parted_at : (xs : List X) (i : ℕ) (x : X) → i < length xs → x ≡ get_or xs i x → Parted P Q i xs → Q x
  parted_at [] i x l is a = absurd (omega arith)
  parted_at (y ∷ xs) zero x l is a = subst Q (sym is) a.0
  parted_at (y ∷ xs) (suc i) x l is a = parted_at xs i x (omega arith) is a.1

  pub parted_all : (xs : List X) (i : ℕ) → length xs ≤ i → Parted P Q i xs → AllByRecursion P xs
  parted_all [] i l a = tt
  parted_all (x ∷ xs) zero l a = absurd (omega arith)
  parted_all (x ∷ xs) (suc i) l a = (a.0, parted_all xs i (omega arith) a.1)

  pub parted_each : (R : X → X → Type 0) → ((x y : X) → R x y → P x → P y) → ((x y : X) → R x y → Q x → Q y) → (xs ys : List X) (i : ℕ) →
      Each2 R xs ys → Parted P Q i xs → Parted P Q i ys
  parted_each R p q [] [] i e a = tt
  parted_each R p q [] (y ∷ ys) i e a = absurd e
  parted_each R p q (x ∷ xs) [] i e a = tt
  parted_each R p q (x ∷ xs) (y ∷ ys) zero e a = (q x y e.0 a.0, parted_each R p q xs ys zero e.1 a.1)
  parted_each R p q (x ∷ xs) (y ∷ ys) (suc i) e a = (p x y e.0 a.0, parted_each R p q xs ys i e.1 a.1)

module _ {X : Type 0} (R : X → X → Type 0) where
  pub upto_more : (xs ys : List X) (i : ℕ) (y z : X) → i < length ys → y ≡ get_or ys i y → R y z → Upto R i xs ys → Upto R (suc i) xs (set ys i z)
  upto_more xs [] i y z l is r a = absurd (omega arith)
  upto_more [] (w ∷ ys) zero y z l is r a = absurd (let n = ap length a in omega arith)
  upto_more (x ∷ xs) (w ∷ ys) zero y z l is r a =
      let first : w ≡ x = ap (λ l. get_or l 0 w) a in
      (subst (λ u. R u z) (is ∙ first) r, ap (λ l. drop_first l) a)
    where
      drop_first : List X → List X
      drop_first [] = []
      drop_first (v ∷ vs) = vs
  upto_more [] (w ∷ ys) (suc i) y z l is r a = absurd a
  upto_more (x ∷ xs) (w ∷ ys) (suc i) y z l is r a = (a.0, upto_more xs ys i y z (omega arith) is r a.1)

  pub upto_step : (xs ys : List X) (i : ℕ) (y z : X) → i < length ys → y ≡ get_or ys i y → R y z → Upto R i xs ys → Upto R (i + 1) xs (set ys i z)
  upto_step xs ys i y z l is r a = rw add-one (upto_more xs ys i y z l is r a)

  pub upto_all : (xs ys : List X) (i : ℕ) → length xs ≤ i → Upto R i xs ys → Each2 R xs ys
  upto_all [] [] zero l a = tt
  upto_all [] (y ∷ ys) zero l a = absurd (let n = ap length a in omega arith)
  upto_all (x ∷ xs) ys zero l a = absurd (omega arith)
  upto_all [] [] (suc i) l a = tt
  upto_all [] (y ∷ ys) (suc i) l a = absurd a
  upto_all (x ∷ xs) [] (suc i) l a = absurd a
  upto_all (x ∷ xs) (y ∷ ys) (suc i) l a = (a.0, upto_all xs ys i (omega arith) a.1)

  pub upto_length : (xs ys : List X) (i : ℕ) → Upto R i xs ys → length ys ≡ length xs
  upto_length xs ys zero a = ap length a
  upto_length [] [] (suc i) a = refl
  upto_length [] (y ∷ ys) (suc i) a = absurd a
  upto_length (x ∷ xs) [] (suc i) a = absurd a
  upto_length (x ∷ xs) (y ∷ ys) (suc i) a = ap suc (upto_length xs ys i a.1)

  -- the next one is as it was
  pub upto_next : (xs ys : List X) (i : ℕ) (d : X) → Upto R i xs ys → get_or ys i d ≡ get_or xs i d
  upto_next xs ys zero d a = ap (λ l. get_or l 0 d) a
  upto_next [] [] (suc i) d a = refl
  upto_next [] (y ∷ ys) (suc i) d a = absurd a
  upto_next (x ∷ xs) [] (suc i) d a = absurd a
  upto_next (x ∷ xs) (y ∷ ys) (suc i) d a = upto_next xs ys i d a.1

  pub downto_start : (xs : List X) (i : ℕ) → length xs ≤ i → Downto R i xs xs
  downto_start [] i l = tt
  downto_start (x ∷ xs) zero l = absurd (omega arith)
  downto_start (x ∷ xs) (suc i) l = (refl, downto_start xs i (omega arith))

  downto_more : (xs ys : List X) (i : ℕ) (y z : X) → y ≡ get_or ys i y → R y z → Downto R (suc i) xs ys → Downto R i xs (set ys i z)
  downto_more [] [] i y z is r a = tt
  downto_more [] (w ∷ ys) i y z is r a = absurd a
  downto_more (x ∷ xs) [] i y z is r a = absurd a
  downto_more (x ∷ xs) (w ∷ ys) zero y z is r a = (subst (λ u. R u z) (is ∙ a.0) r, a.1)
  downto_more (x ∷ xs) (w ∷ ys) (suc i) y z is r a = (a.0, downto_more xs ys i y z is r a.1)

  pub downto_step : (xs ys : List X) (n i : ℕ) (y z : X) → n ≡ i + 1 → y ≡ get_or ys i y → R y z → Downto R n xs ys → Downto R i xs (set ys i z)
  downto_step xs ys n i y z e is r a = downto_more xs ys i y z is r (subst (λ k. Downto R k xs ys) (e ∙ add-one i) a)

  pub downto_all : (xs ys : List X) → Downto R 0 xs ys → Each2 R xs ys
  downto_all [] [] a = tt
  downto_all [] (y ∷ ys) a = absurd a
  downto_all (x ∷ xs) [] a = absurd a
  downto_all (x ∷ xs) (y ∷ ys) a = (a.0, downto_all xs ys a.1)

  pub downto_length : (xs ys : List X) (i : ℕ) → Downto R i xs ys → length ys ≡ length xs
  downto_length [] [] i a = refl
  downto_length [] (y ∷ ys) i a = absurd a
  downto_length (x ∷ xs) [] i a = absurd a
  downto_length (x ∷ xs) (y ∷ ys) zero a = ap suc (downto_length xs ys zero a.1)
  downto_length (x ∷ xs) (y ∷ ys) (suc i) a = ap suc (downto_length xs ys i a.1)

  -- one that is still the same
  pub downto_next : (xs ys : List X) (n i : ℕ) (d : X) → i < n → Downto R n xs ys → get_or ys i d ≡ get_or xs i d
  downto_next [] [] n i d l a = refl
  downto_next [] (y ∷ ys) n i d l a = absurd a
  downto_next (x ∷ xs) [] n i d l a = absurd a
  downto_next (x ∷ xs) (y ∷ ys) zero i d l a = absurd (omega arith)
  downto_next (x ∷ xs) (y ∷ ys) (suc n) zero d l a = a.0
  downto_next (x ∷ xs) (y ∷ ys) (suc n) (suc i) d l a = downto_next xs ys n i d (omega arith) a.1
