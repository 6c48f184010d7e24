-- Logs joined from their ends: the lines so far, and what is left of each log.
use Rattle.std.proofs.Common.{◌≡◌, ℕ, List, [], ◌∷◌, ◌++◌, refl, sym, ap, subst, ◌∙◌, inl, inr, append-nil, append_assoc}
use Rattle.std.specs.Prelude.{◌⊎◌, Bool, true, false, ◌==◌}
use Rattle.std.specs.List.{AllByRecursion}
use Rattle.std.proofs.lemmas.Bool.{eqb-true, eqb-false}
use Rattle.std.proofs.lemmas.List.{map-append}
use Rattle.sj_rules.specs.Log.{EntryAt, LineAt, IsBefore, IsInOrder, IsJoined, part_of}
use Rattle.sj_joined_lemmas.proofs.MergeLemmas.{line_at}
use Rattle.sj_joined_lemmas.proofs.MergingLemmas.{lines_at}
use Rattle.sj_joined_lemmas.proofs.OrderLemmas.{before_later, part_here, part_others}
use Rattle.sj_core.specs.Given.{AreInOrder, line_by}
use Rattle.sj_core.specs.Tails.{IsLast}

-- so far these lines came out; what is left of each log is in order before them
pub record Giving (logs left : ℕ → List EntryAt) (out : List LineAt) : Type 0 where
  pub order : (p : ℕ) → IsInOrder (lines_at p (left p) ++ out)
  pub parts : (p : ℕ) → left p ++ part_of p out ≡ logs p

-- at the start nothing came out
pub giving_begins : (logs : ℕ → List EntryAt) → AreInOrder logs → Giving logs logs []
giving_begins logs order = record {
  order = λ p. subst (λ (ls : List LineAt). IsInOrder ls) (sym (append-nil (lines_at p (logs p)))) (order p);
  parts = λ p. append-nil (logs p);
}

-- at the end nothing is left
pub giving_ends : (logs left : ℕ → List EntryAt) (out : List LineAt) → Giving logs left out → ((p : ℕ) → left p ≡ []) → IsJoined logs out
giving_ends logs left out g none = record {
  order = subst (λ (es : List EntryAt). IsInOrder (lines_at 0 es ++ out)) (none 0) (g.order 0);
  parts = λ p. ap (λ es. es ++ part_of p out) (sym (none p)) ∙ g.parts p;
}

-- a list has a last element, or none
last_of : {X : Type 0} → (xs : List X) → (xs ≡ []) ⊎ ((ys : List X) × (y : X) × (xs ≡ ys ++ y ∷ []))
last_of [] = inl refl
last_of {X} (x ∷ xs) = inr (by (last_of xs))
  where
    by : (xs ≡ []) ⊎ ((ys : List X) × (y : X) × (xs ≡ ys ++ y ∷ [])) → (ys : List X) × (y : X) × (x ∷ xs ≡ ys ++ y ∷ [])
    by (inl none) = ([], x, ap (λ zs. x ∷ zs) none)
    by (inr e) = (x ∷ e.0, e.1, ap (λ zs. x ∷ zs) e.2)

-- what holds of all holds of the last
all_last : (T : LineAt → Type 0) (ks : List LineAt) (m : LineAt) → AllByRecursion T (ks ++ m ∷ []) → T m
all_last T [] m all = all.0
all_last T (k ∷ ks) m all = all_last T ks m all.1

-- and of the first ones
all_front : (T : LineAt → Type 0) (ks ls : List LineAt) → AllByRecursion T (ks ++ ls) → AllByRecursion T ks
all_front T [] ls all = tt
all_front T (k ∷ ks) ls all = (all.0, all_front T ks ls all.1)

-- and with a further one
all_with : (T : LineAt → Type 0) (ks ls : List LineAt) (l : LineAt) → AllByRecursion T (ks ++ ls) → T l → AllByRecursion T (ks ++ l ∷ ls)
all_with T [] ls l all here = (here, all)
all_with T (k ∷ ks) ls l all here = (all.0, all_with T ks ls l all.1 here)

-- the first ones are in order, and the last ones
order_front : (ks ls : List LineAt) → IsInOrder (ks ++ ls) → IsInOrder ks
order_front [] ls order = tt
order_front (k ∷ ks) ls order = (all_front (IsBefore k) ks ls order.0, order_front ks ls order.1)

order_back : (ks ls : List LineAt) → IsInOrder (ks ++ ls) → IsInOrder ls
order_back [] ls order = order
order_back (k ∷ ks) ls order = order_back ks ls order.1

-- where the last is before a line, all are
all_before : (ks : List LineAt) (m l : LineAt) → IsInOrder (ks ++ m ∷ []) → IsBefore m l → AllByRecursion (λ k. IsBefore k l) (ks ++ m ∷ [])
all_before [] m l order last = (last, tt)
all_before (k ∷ ks) m l order last = (before_later k m l (all_last (IsBefore k) ks m order.0) last, all_before ks m l order.1 last)

-- a line between those that are before it and those that it is before
put_between : (ks ls : List LineAt) (l : LineAt) → IsInOrder (ks ++ ls) → IsInOrder (l ∷ ls) → AllByRecursion (λ k. IsBefore k l) ks → IsInOrder (ks ++ l ∷ ls)
put_between [] ls l order here all = here
put_between (k ∷ ks) ls l order here all = (all_with (IsBefore k) ks ls l order.0 all.0, put_between ks ls l order.1 here all.1)

module _ (logs left after : ℕ → List EntryAt) (out : List LineAt) (p : ℕ) (g : Giving logs left out) (n : IsLast left p) (own : after p ≡ n.before)
    (others : (q : ℕ) → (q ≡ p → ⊥) → after q ≡ left q) where
  abbrev l : LineAt
  l = line_by p n.entry

  here : IsInOrder (lines_at p n.before ++ l ∷ out)
  here =
      subst (λ (ls : List LineAt). IsInOrder ls)
      (ap (λ ls. ls ++ out) (map-append (line_at p) n.before (n.entry ∷ [])) ∙ append_assoc (lines_at p n.before) (l ∷ []) out)
      (subst (λ (es : List EntryAt). IsInOrder (lines_at p es ++ out)) n.own (g.order p))

  -- what is left of another log is before the line
  other_before : (q : ℕ) → (q ≡ p → ⊥) → (left q ≡ []) ⊎ ((es : List EntryAt) × (e : EntryAt) × (left q ≡ es ++ e ∷ [])) → AllByRecursion (λ k. IsBefore k l) (lines_at q (left q))
  other_before q apart (inl none) = subst (λ (es : List EntryAt). AllByRecursion (λ k. IsBefore k l) (lines_at q es)) (sym none) tt
  other_before q apart (inr e) =
      let same : lines_at q (left q) ≡ lines_at q e.0 ++ line_by q e.1 ∷ [] = ap (lines_at q) e.2 ∙ map-append (line_at q) e.0 (e.1 ∷ []) in
      subst (λ (ls : List LineAt). AllByRecursion (λ k. IsBefore k l) ls) (sym same)
      (all_before (lines_at q e.0) (line_by q e.1) l
      (subst (λ (ls : List LineAt). IsInOrder ls) same (order_front (lines_at q (left q)) out (g.order q)))
      (n.last q e.0 e.1 apart e.2))

  order_by : (q : ℕ) (b : Bool) → (q == p) ≡ b → IsInOrder (lines_at q (after q) ++ l ∷ out)
  order_by q true at =
      let same : q ≡ p = eqb-true q p at in
      subst (λ r. IsInOrder (lines_at r (after r) ++ l ∷ out)) (sym same)
      (subst (λ (es : List EntryAt). IsInOrder (lines_at p es ++ l ∷ out)) (sym own) here)
  order_by q false at =
      let apart = eqb-false q p at in
      subst (λ (es : List EntryAt). IsInOrder (lines_at q es ++ l ∷ out)) (sym (others q apart))
      (put_between (lines_at q (left q)) out l (g.order q) (order_back (lines_at p n.before) (l ∷ out) here) (other_before q apart (last_of (left q))))

  parts_by : (q : ℕ) (b : Bool) → (q == p) ≡ b → after q ++ part_of q (l ∷ out) ≡ logs q
  parts_by q true at =
      let same : q ≡ p = eqb-true q p at in
      ap (λ es. es ++ part_of q (l ∷ out)) (ap after same ∙ own)
      ∙ ap (λ es. n.before ++ es) (part_here q l out same)
      ∙ sym (append_assoc n.before (n.entry ∷ []) (part_of q out))
      ∙ ap (λ es. es ++ part_of q out) (sym n.own ∙ ap left (sym same))
      ∙ g.parts q
  parts_by q false at =
      ap (λ es. es ++ part_of q (l ∷ out)) (others q (eqb-false q p at))
      ∙ ap (λ es. left q ++ es) (part_others q l out at)
      ∙ g.parts q

  -- the last line came out
  pub giving_more : Giving logs after (l ∷ out)
  giving_more = record { order = λ q. order_by q (q == p) refl; parts = λ q. parts_by q (q == p) refl }
