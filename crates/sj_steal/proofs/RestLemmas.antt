-- What the pass that has every part knows of a deque.
use Rattle.std.proofs.Common.{◌≡◌, ℕ, zero, suc, ◌≤◌, List, [], ◌∷◌, ◌++◌}
use Rattle.std.proofs.Common.{length, sym, ap, ◌∙◌, subst, append-nil, flat_map, sum_by, length-append, arith, refl}
use mathlib.Core.Option.{some, some-ne-none, some-injective}
use lib.ListN.{get_elem?}
use Rattle.std.specs.List.Sorted.{IsPermutation}
use Rattle.std.proofs.lemmas.List.Sorted.{length_permutation}
use Rattle.std.proofs.lemmas.List.Sums.{sum_by-cons}
use Rattle.crossbeam_deque.specs.Tasks.{Takes, Finds}
use Rattle.sj_steal.specs.declared.rule.Hand.{Hand}
use Rattle.sj_steal.specs.Hands.{hand, put_of, taken_of, parts_of, Balanced, whole}
use Rattle.sj_steal.proofs.RuleLemmas.{takes}

module _ {J : Type 0} where
  -- passes without parts have put and taken nothing
  nothing : (f : Hand J → List J) (views : List (Hand J)) → sum_by parts_of views ≡ 0 →
      ((j : ℕ) (u : Hand J) → get_elem? views j ≡ some u → u.parts ≡ 0 → f u ≡ []) → flat_map f views ≡ []
  nothing f [] none idle = refl
  nothing f (x ∷ xs) none idle =
      let s = sum_by-cons parts_of x xs in
      let e : f x ≡ [] = idle 0 x refl (omega arith) in
      subst (λ l. l ++ flat_map f xs ≡ []) (sym e) (nothing f xs (omega arith) (λ j u at. idle (suc j) u at))

  -- where one pass has every part, the others have put and taken nothing
  alone : (f : Hand J → List J) (views : List (Hand J)) (port : ℕ) (v : Hand J) → get_elem? views port ≡ some v → sum_by parts_of views ≡ v.parts →
      ((j : ℕ) (u : Hand J) → get_elem? views j ≡ some u → u.parts ≡ 0 → f u ≡ []) → flat_map f views ≡ f v
  alone f [] port v at total idle = absurd (some-ne-none v (sym at))
  alone f (x ∷ xs) zero v at total idle =
      let s = sum_by-cons parts_of x xs in
      let e : x ≡ v = some-injective x v at in
      let p : x.parts ≡ v.parts = ap parts_of e in
      subst (λ l. f x ++ l ≡ f v) (sym (nothing f xs (omega arith) (λ j u at'. idle (suc j) u at'))) (append-nil (f x) ∙ ap f e)
  alone f (x ∷ xs) (suc port) v at total idle =
      let s = sum_by-cons parts_of x xs in
      let low = at_most xs port v at in
      let e : f x ≡ [] = idle 0 x refl (omega arith) in
      subst (λ l. l ++ flat_map f xs ≡ f v) (sym e) (alone f xs port v at (omega arith) (λ j u at'. idle (suc j) u at'))
    where
      at_most : (xs : List (Hand J)) (port : ℕ) (v : Hand J) → get_elem? xs port ≡ some v → v.parts ≤ sum_by parts_of xs
      at_most [] port v at = absurd (some-ne-none v (sym at))
      at_most (x ∷ xs) zero v at = let s = sum_by-cons parts_of x xs in let p : x.parts ≡ v.parts = ap parts_of (some-injective x v at) in omega arith
      at_most (x ∷ xs) (suc port) v at = let s = sum_by-cons parts_of x xs in let p = at_most xs port v at in omega arith

  -- so it knows what the deque has
  knows : (items : List J) (views : List (Hand J)) (port : ℕ) (v : Hand J) → v.parts ≡ whole → Balanced items views → get_elem? views port ≡ some v →
      IsPermutation v.put (v.taken ++ items)
  knows items views port v all h at =
      let put = alone put_of views port v at (h.parts ∙ sym all) (λ j u at' none. (h.idle j u at' none).0) in
      let taken = alone taken_of views port v at (h.parts ∙ sym all) (λ j u at' none. (h.idle j u at' none).1) in
      subst (λ l. IsPermutation l (v.taken ++ items)) put (subst (λ l. IsPermutation (flat_map put_of views) (l ++ items)) taken h.jobs)

  pub takes_rest : (port : ℕ) (v : Hand J) (most : ℕ) → v.parts ≡ whole →
      Takes Balanced port v most (λ xs w. (w ≡ hand v.parts v.put (v.taken ++ xs)) × (length w.taken ≤ length w.put))
  takes_rest port v most all xs items views full bound h at =
      let t = takes port v most (omega arith) xs items views full bound h at in
      let long = length_permutation v.put (v.taken ++ (xs ++ items)) (knows (xs ++ items) views port v all h at) in
      let a = length-append v.taken (xs ++ items) in
      let b = length-append xs items in
      let c = length-append v.taken xs in
      let p : length t.0.put ≡ length v.put = ap (λ (w : Hand J). length w.put) t.2 in
      let q : length t.0.taken ≡ length (v.taken ++ xs) = ap (λ (w : Hand J). length w.taken) t.2 in
      (t.0, t.1, (t.2, omega arith))

  pub finds_none : (port : ℕ) (v : Hand J) → v.parts ≡ whole → Finds Balanced port v (IsPermutation v.put v.taken)
  finds_none port v all views h at = subst (IsPermutation v.put) (append-nil v.taken) (knows [] views port v all h at)
