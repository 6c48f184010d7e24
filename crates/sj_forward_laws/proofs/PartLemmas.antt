-- Parts of a pipe, as messages go on from one to the next.
use Rattle.std.proofs.Common.{◌≡◌, ℕ, zero, suc, ◌<◌, ◌≤◌, List, ◌++◌, refl, sym, subst, ap, ◌∙◌, arith, inl, inr, append_assoc}
use Rattle.std.specs.Prelude.{◌⊎◌}
use Rattle.std.proofs.lemmas.Bool.{cases_lt}
use Rattle.sj_forward_rules.specs.Record.{SentAt}
use Rattle.sj_forward_laws.specs.Pipe.{from_last, from_first}

module _ (old new : ℕ → List SentAt) where
  -- the same parts
  pub same_last : (t : ℕ) → ((h : ℕ) → h ≤ t → new h ≡ old h) → from_last new t ≡ from_last old t
  same_last zero same = same zero (omega arith)
  same_last (suc k) same =
      ap (λ z. z ++ from_last new k) (same (suc k) (omega arith))
      ∙ ap (λ z. old (suc k) ++ z) (same_last k (λ h l. same h (omega (arith, l))))

  pub same_first : (t : ℕ) → ((h : ℕ) → h < t → new h ≡ old h) → from_first new t ≡ from_first old t
  same_first zero same = refl
  same_first (suc k) same =
      ap (λ z. z ++ new k) (same_first k (λ h l. same h (omega (arith, l))))
      ∙ ap (λ z. from_first old k ++ z) (same k (omega arith))

  -- a prefix of the last part goes
  pub pop_last : (t : ℕ) (xs : List SentAt) → old t ≡ xs ++ new t → ((h : ℕ) → h < t → new h ≡ old h) → from_last old t ≡ xs ++ from_last new t
  pop_last zero xs pop same = pop
  pop_last (suc k) xs pop same =
      ap (λ z. z ++ from_last old k) pop
      ∙ append_assoc xs (new (suc k)) (from_last old k)
      ∙ ap (λ z. xs ++ (new (suc k) ++ z)) (sym (same_last k (λ h l. same h (omega (arith, l)))))

  -- a prefix of a part goes after the part of the next hop
  pub move_last : (t j : ℕ) (xs : List SentAt) → j < t → old j ≡ xs ++ new j → new (suc j) ≡ old (suc j) ++ xs
      → ((h : ℕ) → (h ≡ j → ⊥) → (h ≡ suc j → ⊥) → new h ≡ old h) → from_last new t ≡ from_last old t
  move_last zero j xs lt pop push same = absurd (omega (arith, lt))
  move_last (suc k) j xs lt pop push same = by (λ l. move_last k j xs l pop push same) (cases_lt j k)
    where
      by : (j < k → from_last new k ≡ from_last old k) → (j < k) ⊎ (k ≤ j) → from_last new (suc k) ≡ from_last old (suc k)
      by below (inl l) =
          ap (λ z. z ++ from_last new k) (same (suc k) (λ i. omega (arith, l, i)) (λ i. omega (arith, l, i)))
          ∙ ap (λ z. old (suc k) ++ z) (below l)
      by below (inr l) =
          let e : j ≡ k = omega (arith, l, lt) in
          let pop_k : old k ≡ xs ++ new k = subst (λ (i : ℕ). old i ≡ xs ++ new i) e pop in
          let push_k : new (suc k) ≡ old (suc k) ++ xs = subst (λ (i : ℕ). new (suc i) ≡ old (suc i) ++ xs) e push in
          ap (λ z. z ++ from_last new k) push_k
          ∙ append_assoc (old (suc k)) xs (from_last new k)
          ∙ ap (λ z. old (suc k) ++ z) (sym (pop_last k xs pop_k (λ h m. same h (λ i. omega (arith, m, i, e)) (λ i. omega (arith, m, i, e)))))

  -- messages come after the part of the first hop
  pub push_last : (t : ℕ) (xs : List SentAt) → new 0 ≡ old 0 ++ xs → ((h : ℕ) → (h ≡ 0 → ⊥) → new h ≡ old h) → from_last new t ≡ from_last old t ++ xs
  push_last zero xs push same = push
  push_last (suc k) xs push same =
      ap (λ z. z ++ from_last new k) (same (suc k) (λ i. omega (arith, i)))
      ∙ ap (λ z. old (suc k) ++ z) (push_last k xs push same)
      ∙ sym (append_assoc (old (suc k)) (from_last old k) xs)

  -- a prefix of the first part goes
  pub pop_first : (t : ℕ) (xs : List SentAt) → old 0 ≡ xs ++ new 0 → ((h : ℕ) → (h ≡ 0 → ⊥) → new h ≡ old h)
      → from_first old (suc t) ≡ xs ++ from_first new (suc t)
  pop_first zero xs pop same = pop
  pop_first (suc k) xs pop same =
      ap (λ z. z ++ old (suc k)) (pop_first k xs pop same)
      ∙ append_assoc xs (from_first new (suc k)) (old (suc k))
      ∙ ap (λ z. xs ++ (from_first new (suc k) ++ z)) (sym (same (suc k) (λ i. omega (arith, i))))

  -- messages come after the last part
  pub push_first : (t : ℕ) (xs : List SentAt) → new t ≡ old t ++ xs → ((h : ℕ) → h < t → new h ≡ old h)
      → from_first new (suc t) ≡ from_first old (suc t) ++ xs
  push_first t xs push same =
      ap (λ z. from_first new t ++ z) push
      ∙ ap (λ z. z ++ (old t ++ xs)) (same_first t same)
      ∙ sym (append_assoc (from_first old t) (old t) xs)

  -- a prefix of a part goes after the part of the hop before
  pub move_first : (t j : ℕ) (xs : List SentAt) → suc j < t → old (suc j) ≡ xs ++ new (suc j) → new j ≡ old j ++ xs
      → ((h : ℕ) → (h ≡ j → ⊥) → (h ≡ suc j → ⊥) → new h ≡ old h) → from_first new t ≡ from_first old t
  move_first zero j xs lt pop push same = absurd (omega (arith, lt))
  move_first (suc k) j xs lt pop push same = by (λ l. move_first k j xs l pop push same) (cases_lt (suc j) k)
    where
      by : (suc j < k → from_first new k ≡ from_first old k) → (suc j < k) ⊎ (k ≤ suc j) → from_first new (suc k) ≡ from_first old (suc k)
      by below (inl l) =
          ap (λ z. z ++ new k) (below l)
          ∙ ap (λ z. from_first old k ++ z) (same k (λ i. omega (arith, l, i)) (λ i. omega (arith, l, i)))
      by below (inr l) =
          let e : suc j ≡ k = omega (arith, l, lt) in
          let pop_k : old k ≡ xs ++ new k = subst (λ (i : ℕ). old i ≡ xs ++ new i) e pop in
          let pushed : from_first new (suc j) ≡ from_first old (suc j) ++ xs =
          push_first j xs push (λ h m. same h (λ i. omega (arith, m, i)) (λ i. omega (arith, m, i))) in
          let pushed_k : from_first new k ≡ from_first old k ++ xs = subst (λ (i : ℕ). from_first new i ≡ from_first old i ++ xs) e pushed in
          ap (λ z. z ++ new k) pushed_k
          ∙ append_assoc (from_first old k) xs (new k)
          ∙ ap (λ z. from_first old k ++ z) (sym pop_k)

  -- the same, where there is a part
  pub pop_front : (t : ℕ) (xs : List SentAt) → 0 < t → old 0 ≡ xs ++ new 0 → ((h : ℕ) → (h ≡ 0 → ⊥) → new h ≡ old h)
      → from_first old t ≡ xs ++ from_first new t
  pop_front zero xs lt pop same = absurd (omega (arith, lt))
  pop_front (suc k) xs lt pop same = pop_first k xs pop same
