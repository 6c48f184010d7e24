-- All jobs, each after one run.
use Rattle.std.proofs.Common.{◌≡◌, ℕ, zero, suc, ◌<◌, List, [], ◌∷◌, ◌++◌, length, get_or, set, refl, subst, flat_map, arith}
use Rattle.std.specs.List.{swap}
use Rattle.std.specs.List.Sorted.{IsNonDecreasingBy, IsPermutation}
use Rattle.std.proofs.lemmas.List.Sorted.{IsPermutation-refl, IsPermutation-trans, IsPermutation-sym}
use Rattle.std.proofs.lemmas.List.Sorted.{IsPermutation-append, IsPermutation-swap, IsPermutation-keeps}
use Rattle.sj_steal.specs.declared.member.Member.{Member}
use Rattle.sj_steal.specs.Runs.{Each2, HasRun, IsDone, RanMore}
use Rattle.sj_steal.specs.Members.{own_put, taken_by}
use Rattle.sj_steal.specs.Teams.{IsEmptied}
use Rattle.sj_steal.proofs.RunLemmas.{each2_length}

module _ {X Y : Type 0} (R : X → Y → Type 0) where
  pub at_both : (xs : List X) (ys : List Y) (i : ℕ) (d : X) (e : Y) → i < length xs → Each2 R xs ys → R (get_or xs i d) (get_or ys i e)
  at_both [] ys i d e l a = absurd (omega arith)
  at_both (x ∷ xs) [] i d e l a = absurd a
  at_both (x ∷ xs) (y ∷ ys) zero d e l a = a.0
  at_both (x ∷ xs) (y ∷ ys) (suc i) d e l a = at_both xs ys i d e (omega arith) a.1

  set_both : (xs : List X) (ys : List Y) (i : ℕ) (x : X) (y : Y) → R x y → Each2 R xs ys → Each2 R (set xs i x) (set ys i y)
  set_both [] [] i x y r a = tt
  set_both [] (w ∷ ys) i x y r a = absurd a
  set_both (v ∷ xs) [] i x y r a = absurd a
  set_both (v ∷ xs) (w ∷ ys) zero x y r a = (r, a.1)
  set_both (v ∷ xs) (w ∷ ys) (suc i) x y r a = (a.0, set_both xs ys i x y r a.1)

  swap_both : (xs : List X) (ys : List Y) (i j : ℕ) → i < length xs → j < length xs → Each2 R xs ys → Each2 R (swap xs i j) (swap ys i j)
  swap_both [] ys i j p q a = absurd (omega arith)
  swap_both (x ∷ xs) [] i j p q a = absurd a
  swap_both (x ∷ xs) (y ∷ ys) i j p q a =
      set_both (set (x ∷ xs) i (get_or (x ∷ xs) j x)) (set (y ∷ ys) i (get_or (y ∷ ys) j y)) j (get_or (x ∷ xs) i x) (get_or (y ∷ ys) i y)
      (at_both (x ∷ xs) (y ∷ ys) i x y p a)
      (set_both (x ∷ xs) (y ∷ ys) i (get_or (x ∷ xs) j x) (get_or (y ∷ ys) j y) (at_both (x ∷ xs) (y ∷ ys) j x y q a) a)

  -- the second list in another order is related to the first in that order
  pub each2_permuted : (xs : List X) (ys zs : List Y) → Each2 R xs ys → IsPermutation ys zs → (ws : List X) × IsPermutation xs ws × Each2 R ws zs
  each2_permuted xs ys zs a p =
      IsPermutation-keeps ys (λ l. (ws : List X) × IsPermutation xs ws × Each2 R ws l) (xs, IsPermutation-refl xs, a)
      (λ l i j p q h.
      let long = each2_length R h.0 l h.2 in (
        swap h.0 i j,
        IsPermutation-trans _ _ _ h.1 (IsPermutation-swap h.0 (swap h.0 i j) i j (omega arith) (omega arith) refl),
        swap_both h.0 l i j
            (omega arith) (omega arith) h.2,
      ))
      zs p

module _ {J : Type 0} where
  -- nothing is left of what was put
  pub emptied_all : (xs ys : List (Member J)) → Each2 IsEmptied xs ys → IsPermutation (flat_map own_put xs) (flat_map taken_by ys)
  emptied_all [] [] a = IsPermutation-refl []
  emptied_all [] (y ∷ ys) a = absurd a
  emptied_all (x ∷ xs) [] a = absurd a
  emptied_all (x ∷ xs) (y ∷ ys) a = IsPermutation-append _ _ _ _ (subst (λ l. IsPermutation l (taken_by y)) a.0.put a.0.taken) (emptied_all xs ys a.1)

  pub all_done : (number_of : J → ℕ) (ran : J → J → Type 0) (jobs taken done taken' done' sorted : List J) →
      RanMore (HasRun number_of ran) taken done taken' done' → taken ≡ [] → done ≡ [] →
      IsPermutation jobs taken' → IsPermutation done' sorted → IsNonDecreasingBy number_of sorted → IsDone number_of ran jobs sorted
  all_done number_of ran jobs taken done taken' done' sorted h t d p q order =
      let took : IsPermutation h.took taken' = subst (λ l. IsPermutation (l ++ h.took) taken') t h.takes in
      let run : IsPermutation h.ran done' = subst (λ l. IsPermutation (l ++ h.ran) done') d h.adds in
      let found = each2_permuted (HasRun number_of ran) h.took h.ran sorted h.each (IsPermutation-trans _ _ _ run q) in
      record {
        sorted = found.0;
        each_once = IsPermutation-trans _ _ _ p (IsPermutation-trans _ _ _ (IsPermutation-sym _ _ took) found.1);
        run = found.2;
        order = order;
      }
