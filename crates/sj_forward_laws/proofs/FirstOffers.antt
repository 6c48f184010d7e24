-- The smallest number is the first of numbers that rise, and all others are left without it.
use Rattle.std.proofs.Common.{◌≡◌, ℕ, ◌<◌, List, [], ◌∷◌, refl, ap, ◌∙◌, arith}
use Rattle.std.specs.Prelude.{Bool, not, if◌then◌else◌, Some}
use Rattle.std.specs.List.{AllByRecursion}
use Rattle.std.proofs.lemmas.Bool.{eq-eqb, ne_eqb}
use Rattle.sj_rules.specs.Opened.{smallest, smallest_from, without}

below_smallest : (n m : ℕ) (ms : List ℕ) → n < m → AllByRecursion (λ k. n < k) ms → n < smallest_from m ms
below_smallest n m [] lt all = lt
below_smallest n m (k ∷ ks) lt all = let rest : n < smallest_from k ks = below_smallest n k ks all.0 all.1 in omega (arith, lt, rest)

pub first_smallest : (n : ℕ) (ns : List ℕ) → AllByRecursion (λ m. n < m) ns → smallest (n ∷ ns) ≡ Some n
first_smallest n [] all = refl
first_smallest n (m ∷ ms) all =
    let lt : n < smallest_from m ms = below_smallest n m ms all.0 all.1 in
    let is : smallest_from n (m ∷ ms) ≡ n = omega (arith, lt) in
    ap (λ (k : ℕ). Some k) is

keep_others : (n : ℕ) (ns : List ℕ) → AllByRecursion (λ m. n < m) ns → without n ns ≡ ns
keep_others n [] all = refl
keep_others n (m ∷ ms) all =
    let lt : n < m = all.0 in
    ap (λ (b : Bool). if not b then m ∷ without n ms else without n ms) (ne_eqb m n (λ i. omega (arith, lt, i)))
    ∙ ap (λ l. m ∷ l) (keep_others n ms all.1)

pub without_first : (n : ℕ) (ns : List ℕ) → AllByRecursion (λ m. n < m) ns → without n (n ∷ ns) ≡ ns
without_first n ns all = ap (λ (b : Bool). if not b then n ∷ without n ns else without n ns) (eq-eqb n n refl) ∙ keep_others n ns all
