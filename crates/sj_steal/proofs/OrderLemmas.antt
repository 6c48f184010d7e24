-- Lists in order of numbers that differ have one order.
use Rattle.std.proofs.Common.{◌≡◌, ℕ, zero, suc, ◌+◌, ◌-◌, ◌<◌, ◌≤◌, min, List, []}
use Rattle.std.proofs.Common.{◌∷◌, length, get_or, sym, refl, ap, ◌∙◌, subst, sum_by, arith}
use Rattle.std.specs.List.Sorted.{IsNonDecreasingBy, IsPermutation}
use Rattle.sj_steal.specs.Runs.{Each2, HasRun, IsDone, Rises}
use Rattle.sj_steal.proofs.DoneLemmas.{at_both}
use Rattle.sj_steal.proofs.RunLemmas.{each2_length}
use Rattle.std.proofs.lemmas.List.{get_or_default, same_lists}
use Rattle.std.proofs.lemmas.List.Elements.{Contains-get_or}
use Rattle.std.proofs.lemmas.List.Sums.{sum_by-cons}
use Rattle.std.proofs.lemmas.List.Sorted.{Contains-permutation, IsPermutation-sym, length_permutation, sum_by-IsPermutation}

module _ {X : Type 0} (number_of : X → ℕ) where
  at_least : (f : X → ℕ) (xs : List X) (m : ℕ) → m ≤ length xs → ((j : ℕ) (d : X) → j < m → 1 ≤ f (get_or xs j d)) → m ≤ sum_by f xs
  at_least f xs zero l h = omega arith
  at_least f [] (suc m) l h = absurd (omega arith)
  at_least f (x ∷ xs) (suc m) l h =
      let s = sum_by-cons f x xs in
      let one : 1 ≤ f x = h 0 x (omega arith) in
      let rest = at_least f xs m (omega arith) (λ j d b. h (suc j) d (omega arith)) in
      omega arith

  none_of : (f : X → ℕ) (xs : List X) → ((j : ℕ) (d : X) → j < length xs → f (get_or xs j d) ≡ 0) → sum_by f xs ≡ 0
  none_of f [] h = refl
  none_of f (x ∷ xs) h =
      let s = sum_by-cons f x xs in
      let one : f x ≡ 0 = h 0 x (omega arith) in
      let rest = none_of f xs (λ j d b. h (suc j) d (omega arith)) in
      omega arith

  at_most : (f : X → ℕ) (xs : List X) (m : ℕ) → ((x : X) → f x ≤ 1) → ((j : ℕ) (d : X) → m ≤ j → j < length xs → f (get_or xs j d) ≡ 0) →
      sum_by f xs ≤ m
  at_most f xs zero one h = let n = none_of f xs (λ j d b. h j d (omega arith) b) in omega arith
  at_most f [] (suc m) one h = omega arith
  at_most f (x ∷ xs) (suc m) one h =
      let s = sum_by-cons f x xs in
      let o = one x in
      let rest = at_most f xs m one (λ j d b c. h (suc j) d (omega arith) (omega arith)) in
      omega arith

  same_place : (xs ys : List X) (i k : ℕ) (d : X) → Rises number_of xs → IsNonDecreasingBy number_of ys → IsPermutation xs ys → i < length ys →
      k < length xs → number_of (get_or xs k d) ≡ number_of (get_or ys i d) → k ≡ i
  same_place xs ys i k d up rises p in' there same =
      let v = number_of (get_or xs k d) in
      let low : X → ℕ = λ x. min 1 (v - number_of x) in
      let high : X → ℕ = λ x. min 1 (v + 1 - number_of x) in
      let a = at_least low xs k (omega arith) (λ j e b. let r = up j k d b there in let s : number_of (get_or xs j e) ≡ number_of (get_or xs j d) =
      ap number_of (get_or_default xs j e d (omega arith)) in omega arith) in
      let b = at_most low ys i (λ x. omega arith) (λ j e c l. let r = rises i j d c l in let s : number_of (get_or ys j e) ≡ number_of
      (get_or ys j d) = ap number_of (get_or_default ys j e d l) in omega arith) in
      let c = at_least high ys (i + 1) (omega arith) (λ j e l. let r = rises j i d (omega arith) in' in let s : number_of (get_or ys j e) ≡ number_of
      (get_or ys j d) = ap number_of (get_or_default ys j e d (omega arith)) in omega arith) in
      let e = at_most high xs (k + 1) (λ x. omega arith)
      (λ j f l m. let r = up k j d (omega arith) m in let s : number_of (get_or xs j f) ≡ number_of (get_or xs j d) =
      ap number_of (get_or_default xs j f d m) in omega arith) in
      let t = sum_by-IsPermutation low xs ys p in
      let u = sum_by-IsPermutation high xs ys p in
      omega arith

  -- the same list
  pub one_order : (xs ys : List X) → Rises number_of xs → IsPermutation xs ys → IsNonDecreasingBy number_of ys → ys ≡ xs
  one_order xs ys up p rises =
      let long = length_permutation xs ys p in
      same_lists ys xs long (λ i d in'.
      let found = Contains-permutation ys xs (get_or ys i d) (IsPermutation-sym xs ys p) (Contains-get_or ys i d in') in
      let k = found.0 in
      let y = get_or ys i d in
      let at : get_or xs k d ≡ y = get_or_default xs k d y found.1 ∙ found.2 in
      let same : k ≡ i = same_place xs ys i k d up rises p in' found.1 (ap number_of at) in
      sym at ∙ ap (λ n. get_or xs n d) same)

-- jobs that are given in order come back each at its index
pub done_in_place : {J : Type 0} (number_of : J → ℕ) (ran : J → J → Type 0) (jobs done : List J) → Rises number_of jobs →
    IsDone number_of ran jobs done → Each2 (HasRun number_of ran) jobs done
done_in_place number_of ran jobs done up h =
    let long = each2_length (HasRun number_of ran) h.sorted done h.run in
    let number = λ (i : ℕ) (d : _) (l : i < length h.sorted). (at_both (HasRun number_of ran) h.sorted done i d d l h.run).1 in
    let order : IsNonDecreasingBy number_of h.sorted = λ i j d low l.
    let a = number i d (omega arith) in
    let b = number j d l in
    let c = h.order i j d low (omega arith) in
    omega arith in
    subst (λ xs. Each2 (HasRun number_of ran) xs done) (one_order number_of jobs h.sorted up h.each_once order) h.run
