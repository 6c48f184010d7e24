-- Facts of each element and of each two elements of a list, by recursion.
use Rattle.std.proofs.Common.{zero, suc, List, [], ◌∷◌, ◌++◌, sym, subst, append_assoc, append-nil, arith}
use Rattle.std.specs.List.{AllPairs, AllByRecursion}
use Rattle.std.proofs.lemmas.List.Elements.{All-from_recursion, recursion_from_All}

-- R holds of each element and each later one
abbrev pub Pairs : {X : Type 0} → (X → X → Type 0) → List X → Type 0
Pairs R [] = Unit {0}
Pairs R (x ∷ xs) = AllByRecursion (R x) xs × Pairs R xs

module _ {X : Type 0} (R : X → X → Type 0) where
  pub pairs_from_all : (xs : List X) → AllPairs R xs → Pairs R xs
  pairs_from_all [] h = tt
  pairs_from_all (x ∷ xs) h = (
    recursion_from_All (R x) xs (λ k d l. h 0 (suc k) d (omega arith) (omega arith)),
    pairs_from_all xs (λ i j d l m. h (suc i) (suc j) d (omega arith) (omega arith)),
  )

  pub all_from_pairs : (xs : List X) → Pairs R xs → AllPairs R xs
  all_from_pairs [] h i j d l m = absurd (omega arith)
  all_from_pairs (x ∷ xs) h i zero d l m = absurd (omega arith)
  all_from_pairs (x ∷ xs) h zero (suc j) d l m = All-from_recursion (R x) xs h.0 j d (omega arith)
  all_from_pairs (x ∷ xs) h (suc i) (suc j) d l m = all_from_pairs xs h.1 i j d (omega arith) (omega arith)

  -- the former, the later, and each of the former with each of the later
  pub pairs_split : (xs ys : List X) → Pairs R (xs ++ ys) → Pairs R xs × Pairs R ys × AllByRecursion (λ x. AllByRecursion (R x) ys) xs
  pairs_split [] ys h = (tt, h, tt)
  pairs_split (x ∷ xs) ys h =
      let a = apart (R x) xs ys h.0 in
      let b = pairs_split xs ys h.1 in
      ((a.0, b.0), b.1, (a.1, b.2))
    where
      apart : (P : X → Type 0) (us vs : List X) → AllByRecursion P (us ++ vs) → AllByRecursion P us × AllByRecursion P vs
      apart P [] vs g = (tt, g)
      apart P (u ∷ us) vs g = let q = apart P us vs g.1 in ((g.0, q.0), q.1)

pub each_along : {X : Type 0} (P Q : X → Type 0) → ((x : X) → P x → Q x) → (xs : List X) → AllByRecursion P xs → AllByRecursion Q xs
each_along P Q f [] h = tt
each_along P Q f (x ∷ xs) h = (f x h.0, each_along P Q f xs h.1)

pub pairs_along : {X : Type 0} (R S : X → X → Type 0) → ((x y : X) → R x y → S x y) → (xs : List X) → Pairs R xs → Pairs S xs
pairs_along R S f [] h = tt
pairs_along R S f (x ∷ xs) h = (each_along (R x) (S x) (f x) xs h.0, pairs_along R S f xs h.1)

-- where D holds of each element, S may rest on it
pub pairs_with : {X : Type 0} (D : X → Type 0) (R S : X → X → Type 0) → ((x y : X) → D x → D y → R x y → S x y) → (xs : List X) → AllByRecursion D xs → Pairs R xs → Pairs S xs
pairs_with {X} D R S f [] d h = tt
pairs_with {X} D R S f (x ∷ xs) d h = (each x d.0 xs d.1 h.0, pairs_with D R S f xs d.1 h.1)
  where
    each : (u : X) → D u → (vs : List X) → AllByRecursion D vs → AllByRecursion (R u) vs → AllByRecursion (S u) vs
    each u e [] ds r = tt
    each u e (v ∷ vs) ds r = (f u v e ds.0 r.0, each u e vs ds.1 r.1)

pub pairs_join : {X : Type 0} (R : X → X → Type 0) (xs ys : List X) → Pairs R xs → Pairs R ys → AllByRecursion (λ x. AllByRecursion (R x) ys) xs → Pairs R (xs ++ ys)
pairs_join {X} R [] ys h k e = k
pairs_join {X} R (x ∷ xs) ys h k e = (both (R x) xs ys h.0 e.0, pairs_join R xs ys h.1 k e.1)
  where
    both : (P : X → Type 0) (us vs : List X) → AllByRecursion P us → AllByRecursion P vs → AllByRecursion P (us ++ vs)
    both P [] vs g h' = h'
    both P (u ∷ us) vs g h' = (g.0, both P us vs g.1 h')

-- each after the earlier ones
abbrev pub EachNew : {X : Type 0} → (X → X → Type 0) → List X → List X → Type 0
EachNew R earlier [] = Unit {0}
EachNew R earlier (y ∷ ys) = AllByRecursion (λ x. R x y) earlier × EachNew R (earlier ++ y ∷ []) ys

module _ {X : Type 0} (R : X → X → Type 0) where
  pub pairs_from_new : (earlier ys : List X) → Pairs R earlier → EachNew R earlier ys → Pairs R (earlier ++ ys)
  pairs_from_new earlier [] p h = subst (Pairs R) (sym (append-nil earlier)) p
  pairs_from_new earlier (y ∷ ys) p h =
      let one = pairs_join R earlier (y ∷ []) p (tt, tt) (each_along (λ x. R x y) (λ x. AllByRecursion (R x) (y ∷ [])) (λ x r. (r, tt)) earlier h.0) in
      subst (Pairs R) (append_assoc earlier (y ∷ []) ys) (pairs_from_new (earlier ++ y ∷ []) ys one h.1)

  pub new_from_pairs : (earlier ys : List X) → Pairs R (earlier ++ ys) → EachNew R earlier ys
  new_from_pairs earlier [] p = tt
  new_from_pairs earlier (y ∷ ys) p = (
    each_along (λ x. AllByRecursion (R x) (y ∷ ys)) (λ x. R x y) (λ x r. r.0) earlier (pairs_split R earlier (y ∷ ys) p).2,
    new_from_pairs (earlier ++ y ∷ []) ys (subst (Pairs R) (sym (append_assoc earlier (y ∷ []) ys)) p),
  )
