-- Numbers of sessions that are offered: all but one, and the smallest.
use Rattle.std.proofs.Common.{◌≡◌, ℕ, ◌<◌, ◌≤◌, ◌==◌, min, Bool, true, false, not, cond, List, [], ◌∷◌, Some, subst, arith, inl, inr, ◌⊎◌}
use Rattle.std.specs.List.{AllByRecursion}
use Rattle.std.proofs.lemmas.Bool.{cases_lt}
use Rattle.sj_rules.specs.Opened.{smallest, smallest_from, without}
use Rattle.sj_rules_laws.proofs.WithinRowLemmas.{by_some}

-- what holds of all numbers holds of those but one, and of the smallest
pub kept_without : (P : ℕ → Type 0) (s : ℕ) (ns : List ℕ) → AllByRecursion P ns → AllByRecursion P (without s ns)
kept_without P s [] all = tt
kept_without P s (n ∷ ns) all = by (n == s) (kept_without P s ns all.1)
  where
    by : (b : Bool) → AllByRecursion P (without s ns) → AllByRecursion P (cond (not b) (n ∷ without s ns) (without s ns))
    by true later = later
    by false later = (all.0, later)

of_smallest : (P : ℕ → Type 0) (n : ℕ) (ns : List ℕ) → P n → AllByRecursion P ns → P (smallest_from n ns)
of_smallest P n [] h all = h
of_smallest P n (m ∷ ms) h all = by (cases_lt (smallest_from m ms) n) (of_smallest P m ms all.0 all.1)
  where
    by : (smallest_from m ms < n) ⊎ (n ≤ smallest_from m ms) → P (smallest_from m ms) → P (min n (smallest_from m ms))
    by (inl lt) later = let e : smallest_from m ms ≡ min n (smallest_from m ms) = omega (arith, lt) in subst P e later
    by (inr le) later = let e : n ≡ min n (smallest_from m ms) = omega (arith, le) in subst P e h

pub smallest_told : (P : ℕ → Type 0) (ns : List ℕ) (s : ℕ) → smallest ns ≡ Some s → AllByRecursion P ns → P s
smallest_told P [] s h all = cc
smallest_told P (n ∷ ns) s h all = by_some P (smallest_from n ns) s h (of_smallest P n ns all.0 all.1)
