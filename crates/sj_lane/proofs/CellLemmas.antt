-- The lanes of all parties with one lane changed.
use Rattle.std.proofs.Common.{zero, suc, ◌≡◌, ℕ, ◌<◌, List, [], ◌∷◌, length, refl, sym, ap, subst, ◌∙◌, inl, inr, arith}
use Rattle.std.specs.Prelude.{◌⊎◌, Some, slice_get, vec_len}
use Rattle.std.proofs.Math.ListN.{set, length-set}
use Rattle.std.proofs.lemmas.Bool.{cases_eq}
use Rattle.std.proofs.lemmas.Option.{slice_get_within}
use Rattle.sj_lane.specs.declared.lane.Lanes.{Lanes}
use Rattle.sj_lane.specs.Square.{AllJoined, IsSquare, in_at, in_in, out_at, out_in}

-- an element that was set
pub get_set_here : {X : Type 0} (xs : List X) (i : ℕ) (v : X) → i < length xs → slice_get (set xs i v) i ≡ Some v
get_set_here [] i v h = absurd (omega arith)
get_set_here (x ∷ xs) zero v h = refl
get_set_here (x ∷ xs) (suc i) v h = get_set_here xs i v (omega arith)

-- another element
pub get_set_other : {X : Type 0} (xs : List X) (i k : ℕ) (v : X) → (k ≡ i → ⊥) → slice_get (set xs i v) k ≡ slice_get xs k
get_set_other [] i k v apart = refl
get_set_other (x ∷ xs) zero zero v apart = absurd (apart refl)
get_set_other (x ∷ xs) zero (suc k) v apart = refl
get_set_other (x ∷ xs) (suc i) zero v apart = refl
get_set_other (x ∷ xs) (suc i) (suc k) v apart = get_set_other xs i k v (λ e. apart (ap suc e))

-- the cell of p and q
abbrev pub IsCell : ℕ → ℕ → ℕ → ℕ → Type 0
IsCell p q a b = (a ≡ p) × (b ≡ q)

pub at_cell : (p q a b : ℕ) → IsCell p q a b ⊎ (IsCell p q a b → ⊥)
at_cell p q a b = elim (cases_eq a p) [
  | inl here ↦ elim (cases_eq b q) [ inl there ↦ inl (here, there) | inr apart ↦ inr (λ c. apart c.1) ]
  | inr apart ↦ inr (λ c. apart c.0)
]

module _ {O I : Type 0} where
  -- the lane on which p pushes to q is another, and the others are the same
  pub record OutPut (L M : List (Lanes O I)) (p q : ℕ) (o : O) : Type 0 where
    pub square : IsSquare L → IsSquare M
    pub here : out_at M p q ≡ Some o
    pub others : (a b : ℕ) → (IsCell p q a b → ⊥) → out_at M a b ≡ out_at L a b
    pub ins : (a b : ℕ) → in_at M a b ≡ in_at L a b

  -- the lane on which q pops from p is another, and the others are the same
  pub record InPut (L M : List (Lanes O I)) (p q : ℕ) (i : I) : Type 0 where
    pub square : IsSquare L → IsSquare M
    pub here : in_at M p q ≡ Some i
    pub others : (a b : ℕ) → (IsCell p q a b → ⊥) → in_at M a b ≡ in_at L a b
    pub outs : (a b : ℕ) → out_at M a b ≡ out_at L a b

  -- a party's lanes with as many lanes in the place of others
  still_square : (L : List (Lanes O I)) (p : ℕ) (l m : Lanes O I) → slice_get L p ≡ Some l → length m.outs.items ≡ length l.outs.items →
      length m.ins.items ≡ length l.ins.items → IsSquare L → IsSquare (set L p m)
  still_square L p l m at outs ins square r k found =
      let size : length (set L p m) ≡ length L = length-set L p m in
      by (cases_eq r p) size
    where
      by : (r ≡ p) ⊎ (r ≡ p → ⊥) → length (set L p m) ≡ length L → (vec_len k.outs ≡ length (set L p m)) × (vec_len k.ins ≡ length (set L p m))
      by (inl same) size =
          let is : slice_get (set L p m) p ≡ Some k = subst (λ n. slice_get (set L p m) n ≡ Some k) same found in
          let k_is : m ≡ k = let both = sym (get_set_here L p m (slice_get_within L p l at)) ∙ is in cc both in
          let was = square p l at in
          let a = l.outs.ok in let b = l.ins.ok in let c = m.outs.ok in let d = m.ins.ok in
          rw (← k_is) (omega arith, omega arith)
      by (inr apart) size =
          let was = square r k (sym (get_set_other L p r m apart) ∙ found) in
          (omega arith, omega arith)

  pub out_put : (L : List (Lanes O I)) (p q : ℕ) (l m : Lanes O I) (o : O) → slice_get L p ≡ Some l → q < length l.outs.items →
      m.outs.items ≡ set l.outs.items q o → m.ins.items ≡ l.ins.items → OutPut L (set L p m) p q o
  out_put L p q l m o at within outs ins = record {
    square = still_square L p l m at (ap length outs ∙ length-set l.outs.items q o) (ap length ins);
    here = ap (λ s. out_in s q) set_here ∙ ap (λ xs. slice_get xs q) outs ∙ get_set_here l.outs.items q o within;
    others = λ a b apart. others a b apart (cases_eq a p);
    ins = λ a b. same a b (cases_eq b p);
  }
    where
      set_here : slice_get (set L p m) p ≡ Some m
      set_here = get_set_here L p m (slice_get_within L p l at)

      others : (a b : ℕ) → (IsCell p q a b → ⊥) → (a ≡ p) ⊎ (a ≡ p → ⊥) → out_at (set L p m) a b ≡ out_at L a b
      others a b apart (inl is) =
          let there : b ≡ q → ⊥ = λ e. apart (is, e) in
          rw is (ap (λ s. out_in s b) set_here ∙ ap (λ xs. slice_get xs b) outs ∙ get_set_other l.outs.items q b o there ∙ sym (ap (λ s. out_in s b) at))
      others a b apart (inr not) = ap (λ s. out_in s b) (get_set_other L p a m not)

      same : (a b : ℕ) → (b ≡ p) ⊎ (b ≡ p → ⊥) → in_at (set L p m) a b ≡ in_at L a b
      same a b (inl is) = rw is (ap (λ s. in_in s a) set_here ∙ ap (λ xs. slice_get xs a) ins ∙ sym (ap (λ s. in_in s a) at))
      same a b (inr not) = ap (λ s. in_in s a) (get_set_other L p b m not)

  pub in_put : (L : List (Lanes O I)) (p q : ℕ) (l m : Lanes O I) (i : I) → slice_get L q ≡ Some l → p < length l.ins.items →
      m.ins.items ≡ set l.ins.items p i → m.outs.items ≡ l.outs.items → InPut L (set L q m) p q i
  in_put L p q l m i at within ins outs = record {
    square = still_square L q l m at (ap length outs) (ap length ins ∙ length-set l.ins.items p i);
    here = ap (λ s. in_in s p) set_here ∙ ap (λ xs. slice_get xs p) ins ∙ get_set_here l.ins.items p i within;
    others = λ a b apart. others a b apart (cases_eq b q);
    outs = λ a b. same a b (cases_eq a q);
  }
    where
      set_here : slice_get (set L q m) q ≡ Some m
      set_here = get_set_here L q m (slice_get_within L q l at)

      others : (a b : ℕ) → (IsCell p q a b → ⊥) → (b ≡ q) ⊎ (b ≡ q → ⊥) → in_at (set L q m) a b ≡ in_at L a b
      others a b apart (inl is) =
          let there : a ≡ p → ⊥ = λ e. apart (e, is) in
          rw is (ap (λ s. in_in s a) set_here ∙ ap (λ xs. slice_get xs a) ins ∙ get_set_other l.ins.items p a i there ∙ sym (ap (λ s. in_in s a) at))
      others a b apart (inr not) = ap (λ s. in_in s a) (get_set_other L q b m not)

      same : (a b : ℕ) → (a ≡ q) ⊎ (a ≡ q → ⊥) → out_at (set L q m) a b ≡ out_at L a b
      same a b (inl is) = rw is (ap (λ s. out_in s b) set_here ∙ ap (λ xs. slice_get xs b) outs ∙ sym (ap (λ s. out_in s b) at))
      same a b (inr not) = ap (λ s. out_in s b) (get_set_other L q a m not)

  -- where a lane's later state is joined to what it was joined to, all are still joined
  pub out_joined : (J : O → I → Type 0) (L M : List (Lanes O I)) (p q : ℕ) (o r : O) → OutPut L M p q r → out_at L p q ≡ Some o →
      ((i : I) → J o i → J r i) → AllJoined J L → AllJoined J M
  out_joined J L M p q o r m at later joined a b x y hx hy = by (at_cell p q a b)
    where
      by : IsCell p q a b ⊎ (IsCell p q a b → ⊥) → J x y
      by (inl c) =
          let in_is : in_at L p q ≡ Some y = rw (← c.0, ← c.1) (sym (m.ins a b) ∙ hy) in
          let out_is : out_at M p q ≡ Some x = rw (← c.0, ← c.1) hx in
          let same : r ≡ x = let both : Some r ≡ Some x = sym m.here ∙ out_is in cc both in
          subst (λ v. J v y) same (later y (joined p q o y at in_is))
      by (inr apart) = joined a b x y (sym (m.others a b apart) ∙ hx) (sym (m.ins a b) ∙ hy)
