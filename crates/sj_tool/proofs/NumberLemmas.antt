-- Numbers after a command, and whether two lines of words are one.
use Rattle.std.proofs.Common.{◌≡◌, ◌⊎◌, ◌≤◌, ◌<◌, ℕ, zero, suc, List, Option, Some, None, inl, inr, ap, subst, refl, arith}
use Rattle.std.proofs.lemmas.Bool.{cases_eq}
use Rattle.std.specs.Prelude.{decimal}
use Rattle.sj_command.specs.Task.{ArgumentsAt, StandsForLooks, StandsForWorkers, most_looks, most_workers, usual_looks}
use Rattle.sj_tool.proofs.LineLemmas.{made_of, one_list, one_option}

-- the first number below n that has it
pub record First (P : ℕ → Type 0) (n : ℕ) : Type 0 where
  pub number : ℕ
  pub below : number < n
  pub has : P number
  pub first : (k : ℕ) → k < number → P k → ⊥

pub first_or_none : (P : ℕ → Type 0) → ((k : ℕ) → Dec (P k)) → (n : ℕ) → First P n ⊎ ((k : ℕ) → k < n → P k → ⊥)
first_or_none P test zero = inr (λ k lt has. omega (arith, lt))
first_or_none P test (suc n) = by (first_or_none P test n) (test n)
  where
    by : First P n ⊎ ((k : ℕ) → k < n → P k → ⊥) → Dec (P n) → First P (suc n) ⊎ ((k : ℕ) → k < suc n → P k → ⊥)
    by (inl f) t = inl (record { number = f.number; below = omega (arith, f.below); has = f.has; first = f.first })
    by (inr none) (yes has) = inl (record { number = n; below = omega arith; has = has; first = none })
    by (inr none) (no not) = inr (λ k lt has. elim (cases_eq k n) [ inl same ↦ not (subst P same has) | inr other ↦ none k (omega (arith, lt, other)) has ])

-- whether two lines are one
pub one_line : (x y : ArgumentsAt) → Dec (x ≡ y)
one_line x y = by (one_option one_list x.command y.command) (one_option one_list x.number y.number) (one_option one_list x.log y.log) (one_option one_list x.looks y.looks)
    (one_option one_list x.workers y.workers) (one_option one_list x.forward y.forward)
  where
    by : Dec (x.command ≡ y.command) → Dec (x.number ≡ y.number) → Dec (x.log ≡ y.log) → Dec (x.looks ≡ y.looks) → Dec (x.workers ≡ y.workers) → Dec (x.forward ≡ y.forward) → Dec (x ≡ y)
    by (yes a) (yes b) (yes c) (yes d) (yes e) (yes f) = yes (λ i. record { command = a i; number = b i; log = c i; looks = d i; workers = e i; forward = f i })
    by (no k) b c d e f = no (λ h. k (ap (λ (z : ArgumentsAt). z.command) h))
    by (yes a) (no k) c d e f = no (λ h. k (ap (λ (z : ArgumentsAt). z.number) h))
    by (yes a) (yes b) (no k) d e f = no (λ h. k (ap (λ (z : ArgumentsAt). z.log) h))
    by (yes a) (yes b) (yes c) (no k) e f = no (λ h. k (ap (λ (z : ArgumentsAt). z.looks) h))
    by (yes a) (yes b) (yes c) (yes d) (no k) f = no (λ h. k (ap (λ (z : ArgumentsAt). z.workers) h))
    by (yes a) (yes b) (yes c) (yes d) (yes e) (no k) = no (λ h. k (ap (λ (z : ArgumentsAt). z.forward) h))

-- the option stands for a number of looks, or for none
pub looks_or_none : (most : ℕ) → most_looks ≡ most → (o : Option (List ℕ)) → ((n : ℕ) × StandsForLooks o n) ⊎ ((n : ℕ) → StandsForLooks o n → ⊥)
looks_or_none most is None = inl (usual_looks, refl)
looks_or_none most is (Some text) =
    elim (first_or_none (λ n. text ≡ decimal n) (λ n. one_list text (decimal n)) (suc most)) [
      | inl found ↦ inl (found.number, (found.has, omega (arith, is, found.below)))
      | inr none ↦ inr (λ n h. none n (omega (arith, is, h.1)) h.0)
    ]

-- the text is that number of workers, or isn't
workers_dec : (text : List ℕ) (n : ℕ) → Dec ((text ≡ decimal n) × (1 ≤ n))
workers_dec text zero = no (λ h. omega (arith, h.1))
workers_dec text (suc n) = made_of (one_list text (decimal (suc n))) (λ h. (h, omega arith)) (λ h. h.0)

pub workers_or_none : (most : ℕ) → most_workers ≡ most → (o : Option (List ℕ)) → ((w : Option ℕ) × StandsForWorkers o w) ⊎ ((w : Option ℕ) → StandsForWorkers o w → ⊥)
workers_or_none most is None = inl (None, tt)
workers_or_none most is (Some text) =
    elim (first_or_none (λ n. (text ≡ decimal n) × (1 ≤ n)) (workers_dec text) (suc most)) [
      | inl found ↦ inl (Some found.number, (found.has.0, found.has.1, omega (arith, is, found.below)))
      | inr none ↦ inr (no_workers none)
    ]
  where
    no_workers : ((k : ℕ) → k < suc most → (text ≡ decimal k) × (1 ≤ k) → ⊥) → (w : Option ℕ) → StandsForWorkers (Some text) w → ⊥
    no_workers none None h = h
    no_workers none (Some n) h = none n (omega (arith, is, h.2)) (h.0, h.1)

-- what the options stand for, both of them
pub options_or_none : (l : ArgumentsAt) → ((n : ℕ) × StandsForLooks l.looks n) ⊎ ((n : ℕ) → StandsForLooks l.looks n → ⊥)
    → ((w : Option ℕ) × StandsForWorkers l.workers w) ⊎ ((w : Option ℕ) → StandsForWorkers l.workers w → ⊥)
    → ((n : ℕ) × (w : Option ℕ) × StandsForLooks l.looks n × StandsForWorkers l.workers w)
    ⊎ ((n : ℕ) (w : Option ℕ) → StandsForLooks l.looks n → StandsForWorkers l.workers w → ⊥)
options_or_none l (inl n) (inl w) = inl (n.0, w.0, n.1, w.1)
options_or_none l (inl n) (inr none) = inr (λ k v h. none v)
options_or_none l (inr none) w = inr (λ k v h x. none k h)
