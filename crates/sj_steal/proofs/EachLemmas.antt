-- Lists, element by element.
use Rattle.std.proofs.Common.{◌≡◌, ℕ, zero, suc, ◌<◌, List, [], ◌∷◌, ◌++◌, map, length, get_or, set, refl, ap₂, subst, flat_map, arith}
use Rattle.std.specs.Prelude.{All}
use Rattle.std.specs.List.{AllByRecursion}
use Rattle.std.proofs.lemmas.List.Elements.{All-from_recursion, recursion_from_All}
use Rattle.sj_steal.specs.Runs.{Each2}

pub nothing : {X : Type 0} (xs : List X) → length xs ≡ 0 → xs ≡ []
nothing [] e = refl
nothing (x ∷ xs) e = absurd (omega arith)

pub each2_refl : {X : Type 0} (R : X → X → Type 0) → ((x : X) → R x x) → (xs : List X) → Each2 R xs xs
each2_refl R h [] = tt
each2_refl R h (x ∷ xs) = (h x, each2_refl R h xs)

pub each2_trans : {X : Type 0} (R S T : X → X → Type 0) → ((x y z : X) → R x y → S y z → T x z) → (xs ys zs : List X) → Each2 R xs ys →
    Each2 S ys zs → Each2 T xs zs
each2_trans R S T h [] [] [] a b = tt
each2_trans R S T h [] [] (z ∷ zs) a b = b
each2_trans R S T h [] (y ∷ ys) zs a b = absurd a
each2_trans R S T h (x ∷ xs) [] zs a b = absurd a
each2_trans R S T h (x ∷ xs) (y ∷ ys) [] a b = b
each2_trans R S T h (x ∷ xs) (y ∷ ys) (z ∷ zs) a b = (h x y z a.0 b.0, each2_trans R S T h xs ys zs a.1 b.1)

-- what holds of each before holds of each after
pub each2_all : {X Y : Type 0} (R : X → Y → Type 0) (P : X → Type 0) (Q : Y → Type 0) → ((x : X) (y : Y) → R x y → P x → Q y) →
    (xs : List X) (ys : List Y) → Each2 R xs ys → AllByRecursion P xs → AllByRecursion Q ys
each2_all R P Q h [] [] a p = tt
each2_all R P Q h [] (y ∷ ys) a p = absurd a
each2_all R P Q h (x ∷ xs) [] a p = absurd a
each2_all R P Q h (x ∷ xs) (y ∷ ys) a p = (h x y a.0 p.0, each2_all R P Q h xs ys a.1 p.1)

pub all_all : {X Y : Type 0} (R : X → Y → Type 0) (P : X → Type 0) (Q : Y → Type 0) → ((x : X) (y : Y) → R x y → P x → Q y) →
    (xs : List X) (ys : List Y) → Each2 R xs ys → All P xs → All Q ys
all_all R P Q h xs ys a p = All-from_recursion Q ys (each2_all R P Q h xs ys a (recursion_from_All P xs p))

pub each2_map : {X Y : Type 0} (R : X → X → Type 0) (f : X → Y) → ((x y : X) → R x y → f y ≡ f x) → (xs ys : List X) → Each2 R xs ys →
    map f ys ≡ map f xs
each2_map R f h [] [] a = refl
each2_map R f h [] (y ∷ ys) a = absurd a
each2_map R f h (x ∷ xs) [] a = absurd a
each2_map R f h (x ∷ xs) (y ∷ ys) a = ap₂ (λ z zs. z ∷ zs) (h x y a.0) (each2_map R f h xs ys a.1)

pub each2_flat : {X Y : Type 0} (R : X → X → Type 0) (f : X → List Y) → ((x y : X) → R x y → f y ≡ f x) → (xs ys : List X) → Each2 R xs ys →
    flat_map f ys ≡ flat_map f xs
each2_flat R f h [] [] a = refl
each2_flat R f h [] (y ∷ ys) a = absurd a
each2_flat R f h (x ∷ xs) [] a = absurd a
each2_flat R f h (x ∷ xs) (y ∷ ys) a = ap₂ (λ z zs. z ++ zs) (h x y a.0) (each2_flat R f h xs ys a.1)

pub each2_weaker : {X Y : Type 0} (R S : X → Y → Type 0) → ((x : X) (y : Y) → R x y → S x y) → (xs : List X) (ys : List Y) → Each2 R xs ys →
    Each2 S xs ys
each2_weaker R S h [] [] a = tt
each2_weaker R S h [] (y ∷ ys) a = a
each2_weaker R S h (x ∷ xs) [] a = a
each2_weaker R S h (x ∷ xs) (y ∷ ys) a = (h x y a.0, each2_weaker R S h xs ys a.1)

-- one that is related to what it was
pub each2_set : {X : Type 0} (R : X → X → Type 0) → ((x y z : X) → R x y → R y z → R x z) → (xs ys : List X) (i : ℕ) (y z : X) → y ≡ get_or ys i y →
    R y z → Each2 R xs ys → Each2 R xs (set ys i z)
each2_set R h [] [] i y z is r a = tt
each2_set R h [] (w ∷ ys) i y z is r a = absurd a
each2_set R h (x ∷ xs) [] i y z is r a = a
each2_set R h (x ∷ xs) (w ∷ ys) zero y z is r a = (h x w z a.0 (subst (λ u. R u z) is r), a.1)
each2_set R h (x ∷ xs) (w ∷ ys) (suc i) y z is r a = (a.0, each2_set R h xs ys i y z is r a.1)

-- from the fact at each index
pub each2_index : {X : Type 0} (R : X → X → Type 0) (xs ys : List X) → length ys ≡ length xs →
    ((i : ℕ) (d : X) → i < length xs → R (get_or xs i d) (get_or ys i d)) → Each2 R xs ys
each2_index R [] [] n h = tt
each2_index R [] (y ∷ ys) n h = absurd (omega arith)
each2_index R (x ∷ xs) [] n h = absurd (omega arith)
each2_index R (x ∷ xs) (y ∷ ys) n h = (h 0 x (omega arith), each2_index R xs ys (omega arith) (λ i d l. h (suc i) d (omega arith)))
