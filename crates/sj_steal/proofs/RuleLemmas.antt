-- Each move keeps the rule of a deque.
use Rattle.std.proofs.Common.{◌≡◌, ℕ, zero, suc, ◌+◌, ◌-◌, ◌<◌, ◌≢◌, List, [], ◌∷◌, ◌++◌, length, get_or}
use Rattle.std.proofs.Common.{set, sym, refl, ap, ◌∙◌, subst, ⊎_elim, append_assoc, append-nil, flat_map, sum_by, length-set, arith}
use mathlib.Core.Option.{some, some-ne-none, some-injective}
use lib.ListN.{get_elem?}
use Rattle.std.specs.List.Sorted.{IsPermutation}
use Rattle.std.proofs.lemmas.List.Sorted.{IsPermutation-refl, IsPermutation-sym, IsPermutation-trans, IsPermutation-append_left}
use Rattle.std.proofs.lemmas.List.Sums.{sum_by-set, sum_by_push}
use Rattle.std.proofs.lemmas.List.Concat.{flat_map-append}
use Rattle.std.proofs.lemmas.List.{set_comm, get_or-set_other}
use Rattle.crossbeam_deque.proofs.Lists.{at_set, at_snoc}
use Rattle.crossbeam_deque.specs.Tasks.{Pushes, Takes, Forks, Merges}
use Rattle.sj_steal.specs.declared.rule.Hand.{Hand}
use Rattle.sj_steal.specs.Hands.{hand, put_of, taken_of, parts_of, AreIdle, Balanced, whole}
use Rattle.sj_steal.proofs.PieceLemmas.{exchanges, gains, stays}

-- what `get_elem?` finds, read by `get_or`
pub found : {A : Type 0} (xs : List A) (i : ℕ) (a : A) → get_elem? xs i ≡ some a → (i < length xs) × (a ≡ get_or xs i a)
found [] i a e = absurd (some-ne-none a (sym e))
found (x ∷ xs) zero a e = (omega arith, sym (some-injective x a e))
found (x ∷ xs) (suc i) a e = let r = found xs i a e in let low : i < length xs = r.0 in (omega arith, r.1)

module _ {J : Type 0} where
  -- after a change of a pass that has a part
  idle_set : (views : List (Hand J)) (port : ℕ) (w : Hand J) → (w.parts ≡ 0 → (w.put ≡ []) × (w.taken ≡ [])) → AreIdle views →
      AreIdle (set views port w)
  idle_set views port w mine all j u at none =
      ⊎_elim (λ (x : (j ≡ port) × (w ≡ u)). subst (λ (y : Hand J). y.parts ≡ 0 → (y.put ≡ []) × (y.taken ≡ [])) x.1 mine none)
      (λ (x : (j ≢ port) × (get_elem? views j ≡ some u)). all j u x.1 none) (at_set views port j w u at)

  -- the parts after a change
  parts_set : (views : List (Hand J)) (port : ℕ) (v w : Hand J) → get_elem? views port ≡ some v →
      sum_by parts_of (set views port w) + v.parts ≡ sum_by parts_of views + w.parts
  parts_set views port v w at =
      let there = found views port v at in
      let h = sum_by-set parts_of views port w v there.0 in
      subst (λ (x : Hand J). sum_by parts_of (set views port w) + x.parts ≡ sum_by parts_of views + w.parts) (sym there.1) h

  pub puts : (port : ℕ) (v : Hand J) (xs : List J) → 0 < v.parts → Pushes Balanced port v xs (λ w. w ≡ hand v.parts (v.put ++ xs) v.taken)
  puts port v xs some_part items views h at =
      let w = hand v.parts (v.put ++ xs) v.taken in
      let there = found views port v at in
      let parts = parts_set views port v w at in
      let before = h.parts in
      let total : sum_by parts_of (set views port w) ≡ whole = omega arith in
      let more = gains put_of views port v w xs there.0 there.1 refl in
      let same = stays taken_of views port v w there.1 refl in
      let after : IsPermutation (flat_map put_of views ++ xs) (flat_map taken_of views ++ (items ++ xs)) =
      subst (IsPermutation (flat_map put_of views ++ xs)) (append_assoc (flat_map taken_of views) items xs) (IsPermutation-append_left xs _ _ h.jobs)
      in (
        w,
        record {
          parts = total;
          jobs = subst (λ l. IsPermutation (flat_map put_of (set views port w)) (l ++ (items ++ xs))) (sym same)
              (IsPermutation-trans _ _ _ more after);
          idle = idle_set views port w (λ none. absurd (omega arith)) h.idle;
        },
        refl,
      )

  pub takes : (port : ℕ) (v : Hand J) (most : ℕ) → 0 < v.parts → Takes Balanced port v most (λ xs w. w ≡ hand v.parts v.put (v.taken ++ xs))
  takes port v most some_part xs items views full bound h at =
      let w = hand v.parts v.put (v.taken ++ xs) in
      let there = found views port v at in
      let parts = parts_set views port v w at in
      let before = h.parts in
      let total : sum_by parts_of (set views port w) ≡ whole = omega arith in
      let more = gains taken_of views port v w xs there.0 there.1 refl in
      let same = stays put_of views port v w there.1 refl in
      let after : IsPermutation ((flat_map taken_of views ++ xs) ++ items) (flat_map taken_of (set views port w) ++ items) =
      IsPermutation-append_left items _ _ (IsPermutation-sym _ _ more) in
      let was : IsPermutation (flat_map put_of views) ((flat_map taken_of views ++ xs) ++ items) =
      subst (IsPermutation (flat_map put_of views)) (sym (append_assoc (flat_map taken_of views) xs items)) h.jobs in (
        w,
        record {
          parts = total;
          jobs = subst (λ l. IsPermutation l (flat_map taken_of (set views port w) ++ items)) (sym same) (IsPermutation-trans _ _ _ was after);
          idle = idle_set views port w (λ none. absurd (omega arith)) h.idle;
        },
        refl,
      )

  pub lends : (port : ℕ) (v : Hand J) → 1 < v.parts → Forks Balanced port v (hand (v.parts - 1) v.put v.taken) (hand 1 [] [])
  lends port v enough items views h at =
      let w = hand (v.parts - 1) v.put v.taken in
      let new : Hand J = hand 1 [] [] in
      let there = found views port v at in
      let parts = parts_set views port v w at in
      let before = h.parts in
      let pushed = sum_by_push parts_of (set views port w) new in
      let total : sum_by parts_of (set views port w ++ new ∷ []) ≡ whole = omega arith in
      let put : flat_map put_of (set views port w ++ new ∷ []) ≡ flat_map put_of views =
      flat_map-append put_of (set views port w) (new ∷ []) ∙ append-nil _ ∙ stays put_of views port v w there.1 refl in
      let taken : flat_map taken_of (set views port w ++ new ∷ []) ≡ flat_map taken_of views =
      flat_map-append taken_of (set views port w) (new ∷ []) ∙ append-nil _ ∙ stays taken_of views port v w there.1 refl in
      record {
        parts = total;
        jobs = subst (λ l. IsPermutation l (flat_map taken_of (set views port w ++ new ∷ []) ++ items)) (sym put)
            (subst (λ l. IsPermutation (flat_map put_of views) (l ++ items)) (sym taken) h.jobs);
        idle = λ j u at' none. ⊎_elim (λ (x : get_elem? (set views port w) j ≡ some u). idle_set views port w (λ none'. absurd (omega arith)) h.idle
            j u x none)
            (λ (x : new ≡ u). absurd (let one = ap parts_of x in omega arith)) (at_snoc (set views port w) new u j at');
      }

  -- one piece that goes from one pass to another
  joins : (f : Hand J → List J) (views : List (Hand J)) (port other : ℕ) (v u both spent : Hand J) → get_elem? views port ≡ some v →
      get_elem? views other ≡ some u → other ≢ port →
      f both ≡ f v ++ f u → f spent ≡ [] → IsPermutation (flat_map f (set (set views port both) other spent)) (flat_map f views)
  joins f views port other v u both spent at at' apart gain none =
      let there = found views port v at in
      let beside = found views other u at' in
      let less : List (Hand J) = set views other spent in
      let long = length-set views other spent in
      let here : v ≡ get_or less port v = there.1 ∙ sym (get_or-set_other views other port spent v (λ e. apart (sym e))) in
      let gone : IsPermutation (flat_map f less ++ f u) (flat_map f views ++ []) =
      exchanges f views other u spent (f u) [] beside.0 beside.1
      (subst (λ l. IsPermutation (l ++ f u) (f u ++ [])) (sym none)
      (subst (λ l. IsPermutation (f u) l) (sym (append-nil (f u))) (IsPermutation-refl (f u)))) in
      let come : IsPermutation (flat_map f (set less port both)) (flat_map f less ++ f u) = gains f less port v both (f u)
      (omega (arith, there.0)) here gain in
      let order : set less port both ≡ set (set views port both) other spent = set_comm views other port spent both apart in
      subst (λ l. IsPermutation (flat_map f l) (flat_map f views)) order
      (subst (λ l. IsPermutation (flat_map f (set less port both)) l) (append-nil (flat_map f views)) (IsPermutation-trans _ _ _ come gone))

  pub returns_to : (port : ℕ) (v : Hand J) (other : ℕ) (u : Hand J) → 0 < v.parts → Merges Balanced port v other u
      (hand (v.parts + u.parts) (v.put ++ u.put) (v.taken ++ u.taken)) (hand 0 [] [])
  returns_to port v other u some_part items views h at apart at' =
      let both = hand (v.parts + u.parts) (v.put ++ u.put) (v.taken ++ u.taken) in
      let spent : Hand J = hand 0 [] [] in
      let was : get_elem? views other ≡ some u = ⊎_elim (λ (x : (other ≡ port) × (both ≡ u)). absurd (apart x.0))
      (λ (x : (other ≢ port) × (get_elem? views other ≡ some u)). x.1) (at_set views port other both u at') in
      let first = parts_set views port v both at in
      let second = parts_set (set views port both) other u spent at' in
      let before = h.parts in
      let total : sum_by parts_of (set (set views port both) other spent) ≡ whole = omega arith in
      let put = joins put_of views port other v u both spent at was apart refl refl in
      let taken = joins taken_of views port other v u both spent at was apart refl refl in
      record {
        parts = total;
        jobs = IsPermutation-trans _ _ _ put (IsPermutation-trans _ _ _ h.jobs (IsPermutation-append_left items _ _ (IsPermutation-sym _ _ taken)));
        idle = idle_set (set views port both) other spent (λ _. (refl, refl)) (idle_set views port both (λ none. absurd (omega arith)) h.idle);
      }
