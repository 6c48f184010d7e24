-- Links stay while lanes are made.
use Rattle.std.proofs.Common.{zero, suc, ◌≡◌, ◌⊎◌, ℕ, ◌+◌, ◌<◌, ◌≤◌, List, [], ◌∷◌, ◌++◌, Some, length, inl, inr, sym, ap, ◌∙◌, subst, arith, length-append}
use Rattle.std.specs.Prelude.{slice_get}
use Rattle.std.proofs.Math.ListN.{set}
use Rattle.std.proofs.lemmas.Bool.{cases_eq}
use Rattle.std.proofs.lemmas.Option.{slice_get_within}
use Rattle.sj_lane.specs.declared.lane.Lanes.{Lanes}
use Rattle.sj_lane.specs.Square.{in_at, in_in, out_at, out_in}
use Rattle.sj_lane.proofs.CellLemmas.{get_set_here, get_set_other}
use Rattle.sj_socket.specs.Joined.{IsLink, IsRowLinked}
use Rattle.sj_socket.specs.Streams.{TcpIn, TcpOut}

pub none_in : {X : Type 0} (xs : List X) (k : ℕ) (x : X) → xs ≡ [] → slice_get xs k ≡ Some x → ⊥
none_in [] k x is at = absurd (cc at)
none_in (y ∷ ys) k x is at = absurd (cc is)

pub before_or_at : (k p : ℕ) → k < p + 1 → (k < p) ⊎ (k ≡ p)
before_or_at k zero lt = inr (omega (arith, lt))
before_or_at zero (suc p) lt = inl (omega arith)
before_or_at (suc k) (suc p) lt = elim (before_or_at k p (omega (arith, lt))) [ inl l ↦ inl (omega (arith, l)) | inr e ↦ inr (ap suc e) ]

pub below_or_not : (k p : ℕ) → (k < p) ⊎ (p ≤ k)
below_or_not k zero = inr (omega arith)
below_or_not zero (suc p) = inl (omega arith)
below_or_not (suc k) (suc p) = elim (below_or_not k p) [ inl l ↦ inl (omega (arith, l)) | inr e ↦ inr (omega (arith, e)) ]

-- what stands in a list with one more at its end
before_more : {X : Type 0} (xs : List X) (y : X) (k : ℕ) (x : X) → k < length xs → slice_get (xs ++ y ∷ []) k ≡ Some x → slice_get xs k ≡ Some x
before_more [] y k x lt at = absurd (omega (arith, lt))
before_more (z ∷ zs) y zero x lt at = at
before_more (z ∷ zs) y (suc k) x lt at = before_more zs y k x (omega (arith, lt)) at

last_more : {X : Type 0} (xs : List X) (y x : X) → slice_get (xs ++ y ∷ []) (length xs) ≡ Some x → y ≡ x
last_more [] y x at = cc at
last_more (z ∷ zs) y x at = last_more zs y x at

module _ (L : List (Lanes TcpOut TcpIn)) (q : ℕ) (l m : Lanes TcpOut TcpIn) (there : slice_get L q ≡ Some l) where
  pub set_here : slice_get (set L q m) q ≡ Some m
  set_here = get_set_here L q m (slice_get_within L q l there)

  pub out_kept : m.outs.items ≡ l.outs.items → (a b : ℕ) → out_at (set L q m) a b ≡ out_at L a b
  out_kept outs a b = by (cases_eq a q)
    where
      by : (a ≡ q) ⊎ (a ≡ q → ⊥) → out_at (set L q m) a b ≡ out_at L a b
      by (inl is) = rw is (ap (λ s. out_in s b) set_here ∙ ap (λ xs. slice_get xs b) outs ∙ sym (ap (λ s. out_in s b) there))
      by (inr apart) = ap (λ s. out_in s b) (get_set_other L q a m apart)

  pub in_kept : m.ins.items ≡ l.ins.items → (a b : ℕ) → in_at (set L q m) a b ≡ in_at L a b
  in_kept ins a b = by (cases_eq b q)
    where
      by : (b ≡ q) ⊎ (b ≡ q → ⊥) → in_at (set L q m) a b ≡ in_at L a b
      by (inl is) = rw is (ap (λ s. in_in s a) set_here ∙ ap (λ xs. slice_get xs a) ins ∙ sym (ap (λ s. in_in s a) there))
      by (inr apart) = ap (λ s. in_in s a) (get_set_other L q b m apart)

  -- a lane is there that was there before one more came
  pub in_before : (i : TcpIn) → m.ins.items ≡ l.ins.items ++ i ∷ [] → (a b : ℕ) (j : TcpIn) → (b ≡ q → a < length l.ins.items) → in_at (set L q m) a b ≡ Some j → in_at L a b ≡ Some j
  in_before i ins a b j less at = by (cases_eq b q)
    where
      by : (b ≡ q) ⊎ (b ≡ q → ⊥) → in_at L a b ≡ Some j
      by (inl is) =
          let here : slice_get m.ins.items a ≡ Some j = sym (ap (λ s. in_in s a) set_here) ∙ subst (λ (k : ℕ). in_at (set L q m) a k ≡ Some j) is at in
          let before = before_more l.ins.items i a j (less is) (sym (ap (λ xs. slice_get xs a) ins) ∙ here) in
          rw is (ap (λ s. in_in s a) there ∙ before)
      by (inr apart) = sym (ap (λ s. in_in s a) (get_set_other L q b m apart)) ∙ at

  -- the link from p to q
  pub row_link : (p : ℕ) (outs : List TcpOut) (o : TcpOut) (i : TcpIn) → IsRowLinked p outs L → length outs ≡ q → length l.ins.items ≡ p → m.ins.items ≡ l.ins.items ++ i ∷ [] →
      IsLink p q o i → IsRowLinked p (outs ++ o ∷ []) (set L q m)
  row_link p outs o i row many size ins link k x j at bt =
      let within = slice_get_within (outs ++ o ∷ []) k x at in
      elim (before_or_at k q (omega (arith, within, many, length-append outs (o ∷ [])))) [ inl less ↦ before less | inr is ↦ here is ]
    where
      here : k ≡ q → IsLink p k x j
      here is =
          let o_is : o ≡ x = last_more outs o x (subst (λ (n : ℕ). slice_get (outs ++ o ∷ []) n ≡ Some x) (is ∙ sym many) at) in
          let got : slice_get m.ins.items p ≡ Some j = sym (ap (λ s. in_in s p) set_here) ∙ subst (λ (n : ℕ). in_at (set L q m) p n ≡ Some j) is bt in
          let i_is : i ≡ j = last_more l.ins.items i j (subst (λ (n : ℕ). slice_get (l.ins.items ++ i ∷ []) n ≡ Some j) (sym size) (sym (ap (λ xs. slice_get xs p) ins) ∙ got)) in
          rw (is, ← o_is, ← i_is) link

      before : k < q → IsLink p k x j
      before less =
          row k x j (before_more outs o k x (omega (arith, less, many)) at)
          (sym (ap (λ s. in_in s p) (get_set_other L q k m (λ e. omega (arith, less, e)))) ∙ bt)
