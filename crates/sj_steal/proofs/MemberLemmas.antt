-- What stays of a member.
use Rattle.std.proofs.Common.{◌≡◌, ℕ, zero, suc, ◌<◌, List, [], ◌∷◌, ◌++◌, map}
use Rattle.std.proofs.Common.{length, get_or, set, sym, refl, ap, ◌∙◌, subst, append_assoc, flat_map}
use Rattle.std.specs.List.Sorted.{IsPermutation}
use Rattle.std.proofs.lemmas.List.Sorted.{IsPermutation-sym, IsPermutation-append_right}
use Rattle.std.proofs.lemmas.List.{length-map}
use Rattle.sj_steal.specs.declared.member.Reach.{Reach}
use Rattle.sj_steal.specs.declared.member.Member.{Member}
use Rattle.sj_steal.specs.Runs.{RanMore}
use Rattle.sj_steal.specs.Members.{SameMember, way_of, stolen_by}
use Rattle.sj_steal.proofs.PieceLemmas.{swaps_last, gains}
use Rattle.sj_steal.proofs.RunLemmas.{ran_one}

pub map_stays : {A B : Type 0} (f : A → B) (xs : List A) (i : ℕ) (x y : A) → x ≡ get_or xs i x → f y ≡ f x → map f (set xs i y) ≡ map f xs
map_stays f [] i x y is h = refl
map_stays f (z ∷ xs) zero x y is h = ap (λ b. b ∷ map f xs) (subst (λ a. f y ≡ f a) is h)
map_stays f (z ∷ xs) (suc i) x y is h = ap (λ l. f z ∷ l) (map_stays f xs i x y is h)

module _ {J : Type 0} where
  pub same_itself : (m : Member J) → SameMember m m
  same_itself m = record { deque = refl; parts = refl; put = refl; ways = refl; most = refl; capacity = refl }

  pub same_later : (a b c : Member J) → SameMember a b → SameMember b c → SameMember a c
  same_later a b c one two = record {
    deque = two.deque ∙ one.deque;
    parts = two.parts ∙ one.parts;
    put = two.put ∙ one.put;
    ways = two.ways ∙ one.ways;
    most = two.most ∙ one.most;
    capacity = two.capacity ∙ one.capacity;
  }

  -- as many ways
  pub same_many : (a b : Member J) → SameMember a b → length b.all.items ≡ length a.all.items
  same_many a b h = sym (length-map b.all.items way_of) ∙ ap length h.ways ∙ length-map a.all.items way_of

  -- a job of its own deque
  pub own_more : (R : J → J → Type 0) (taken taken' rest done done' : List J) (x y : J) → R x y → taken' ≡ taken ++ x ∷ [] → done' ≡ done ++ y ∷ [] →
      RanMore R (taken ++ rest) done (taken' ++ rest) done'
  own_more R taken taken' rest done done' x y run t d =
      ran_one R (taken ++ rest) done (taken' ++ rest) done' x y run
      (subst (λ l. IsPermutation ((taken ++ rest) ++ x ∷ []) (l ++ rest)) (sym t) (swaps_last taken rest (x ∷ []))) d

  -- a job of another's
  pub stolen_more : (R : J → J → Type 0) (taken done done' : List J) (all : List (Reach J)) (i : ℕ) (r r' : Reach J) (x y : J) → i < length all →
      r ≡ get_or all i r → R x y → stolen_by r' ≡ stolen_by r ++ x ∷ [] → done' ≡ done ++ y ∷ [] →
      RanMore R (taken ++ flat_map stolen_by all) done (taken ++ flat_map stolen_by (set all i r')) done'
  stolen_more R taken done done' all i r r' x y in' is run t d =
      let more = gains stolen_by all i r r' (x ∷ []) in' is t in
      ran_one R (taken ++ flat_map stolen_by all) done (taken ++ flat_map stolen_by (set all i r')) done' x y run
      (subst (λ l. IsPermutation l (taken ++ flat_map stolen_by (set all i r'))) (sym (append_assoc taken (flat_map stolen_by all) (x ∷ [])))
      (IsPermutation-append_right taken _ _ (IsPermutation-sym _ _ more)))
      d
