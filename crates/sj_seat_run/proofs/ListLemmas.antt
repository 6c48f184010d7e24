-- What is in lists, and in mapped ones.
use Rattle.std.proofs.Common.{◌≡◌, ◌∙◌, ℕ, zero, suc, ◌+◌, ◌<◌, ◌≤◌, List, [], ◌∷◌, ◌++◌, append_assoc, append-nil, length-append, min, take, map, length, get_or, Some, refl, sym, ap, subst, arith}
use Rattle.std.specs.Prelude.{slice_get, slice_index_or}

-- what is there is below the length
pub below_length : {X : Type 0} (xs : List X) (p : ℕ) (x : X) → slice_get xs p ≡ Some x → p < length xs
below_length [] p x is = absurd (cc is)
below_length (y ∷ ys) zero x is = omega arith
below_length (y ∷ ys) (suc p) x is = let lt = below_length ys p x is in omega (arith, lt)

-- what is in a mapped list comes of the list
pub mapped_from : {X Y : Type 0} (f : X → Y) (xs : List X) (p : ℕ) (y : Y) → slice_get (map f xs) p ≡ Some y → (x : X) × (slice_get xs p ≡ Some x) × (f x ≡ y)
mapped_from f [] p y is = absurd (cc is)
mapped_from f (x ∷ xs) zero y is = (x, refl, (let e : Some (f x) ≡ Some y = is in cc e))
mapped_from f (x ∷ xs) (suc p) y is = mapped_from f xs p y is

-- what is in a list is in the mapped one
pub mapped_at : {X Y : Type 0} (f : X → Y) (xs : List X) (p : ℕ) (x : X) → slice_get xs p ≡ Some x → slice_get (map f xs) p ≡ Some (f x)
mapped_at f [] p x is = absurd (cc is)
mapped_at f (y ∷ ys) zero x is = let e : Some y ≡ Some x = is in ap (λ o. Some (f o)) (let s : y ≡ x = cc e in s)
mapped_at f (y ∷ ys) (suc p) x is = mapped_at f ys p x is

-- lists that are as long, with one more each
pub one_more : {X Y : Type 0} (xs : List X) (ys : List Y) (x : X) (y : Y) → length xs ≡ length ys → length (xs ++ x ∷ []) ≡ length (ys ++ y ∷ [])
one_more [] [] x y same = refl
one_more [] (b ∷ ys) x y same = absurd (omega (arith, same))
one_more (a ∷ xs) [] x y same = absurd (omega (arith, same))
one_more (a ∷ xs) (b ∷ ys) x y same = ap suc (one_more xs ys x y (omega (arith, same)))

mapped_next : {X Y : Type 0} (f : X → Y) (xs : List X) (k : ℕ) (x : X) → k < length xs → x ≡ get_or xs k x → map f (take (suc k) xs) ≡ map f (take k xs) ++ f x ∷ []
mapped_next f [] k x lt is = absurd (omega (arith, lt))
mapped_next f (y ∷ ys) zero x lt is = ap (λ z. f z ∷ []) (sym is)
mapped_next f (y ∷ ys) (suc k) x lt is = ap (λ zs. f y ∷ zs) (mapped_next f ys k x (omega (arith, lt)) is)

-- a mapped front with the next one
pub mapped_more : {X Y : Type 0} (f : X → Y) (xs : List X) (k : ℕ) (x : X) → k < length xs → x ≡ get_or xs k x → map f (take (k + 1) xs) ≡ map f (take k xs) ++ f x ∷ []
mapped_more f xs k x lt is = let e : suc k ≡ k + 1 = omega arith in subst (λ n. map f (take n xs) ≡ map f (take k xs) ++ f x ∷ []) e (mapped_next f xs k x lt is)

-- a front that is no shorter is the list
pub all_taken : {X : Type 0} (xs : List X) (k : ℕ) → length xs ≤ k → take k xs ≡ xs
all_taken [] zero le = refl
all_taken [] (suc k) le = refl
all_taken (x ∷ xs) zero le = absurd (omega (arith, le))
all_taken (x ∷ xs) (suc k) le = ap (λ zs. x ∷ zs) (all_taken xs k (omega (arith, le)))

-- what holds of the pairs of two lists holds with one more
pub pairs_more : {A B : Type 0} (R : ℕ → A → B → Type 0) (xs : List A) (ys : List B) (a : A) (b : B) → length ys ≡ length xs
    → ((p : ℕ) (c : B) → slice_get ys p ≡ Some c → (own : A) × (slice_get xs p ≡ Some own) × R p own c) → R (length xs) a b
    → (p : ℕ) (c : B) → slice_get (ys ++ b ∷ []) p ≡ Some c → (own : A) × (slice_get (xs ++ a ∷ []) p ≡ Some own) × R p own c
pairs_more R [] [] a b same each last zero c is = (a, refl, subst (λ z. R 0 a z) (let e : Some b ≡ Some c = is in cc e) last)
pairs_more R [] [] a b same each last (suc p) c is = absurd (cc is)
pairs_more R [] (y ∷ ys) a b same each last p c is = absurd (omega (arith, same))
pairs_more R (x ∷ xs) [] a b same each last p c is = absurd (omega (arith, same))
pairs_more R (x ∷ xs) (y ∷ ys) a b same each last zero c is = each zero c is
pairs_more R (x ∷ xs) (y ∷ ys) a b same each last (suc p) c is = pairs_more (λ n. R (suc n)) xs ys a b (omega (arith, same)) (λ n d at. each (suc n) d at) last p c is

-- what holds of each holds with one more
pub each_more : {B : Type 0} (R : ℕ → B → Type 0) (ys : List B) (b : B) → ((p : ℕ) (c : B) → slice_get ys p ≡ Some c → R p c) → R (length ys) b
    → (p : ℕ) (c : B) → slice_get (ys ++ b ∷ []) p ≡ Some c → R p c
each_more R [] b each last zero c is = subst (λ z. R 0 z) (let e : Some b ≡ Some c = is in cc e) last
each_more R [] b each last (suc p) c is = absurd (cc is)
each_more R (y ∷ ys) b each last zero c is = each zero c is
each_more R (y ∷ ys) b each last (suc p) c is = each_more (λ n. R (suc n)) ys b (λ n d at. each (suc n) d at) last p c is

-- what is there is at its index
pub index_is : {X : Type 0} (xs : List X) (p : ℕ) (x d : X) → slice_get xs p ≡ Some x → slice_index_or xs p d ≡ x
index_is [] p x d is = absurd (cc is)
index_is (y ∷ ys) zero x d is = let e : Some y ≡ Some x = is in let s : y ≡ x = cc e in s
index_is (y ∷ ys) (suc p) x d is = index_is ys p x d is

front_of : {X : Type 0} (xs zs : List X) → take (length xs) (xs ++ zs) ≡ xs
front_of [] zs = refl
front_of (x ∷ xs) zs = ap (λ ys. x ∷ ys) (front_of xs zs)

-- a prefix of a list, taken by its length, is that prefix
pub take_front : {X : Type 0} (xs zs : List X) (n : ℕ) → n ≡ length xs → take n (xs ++ zs) ≡ xs
take_front xs zs n is = ap (λ m. take m (xs ++ zs)) is ∙ front_of xs zs

-- what holds at each index holds of what is there
pub each_at : {X : Type 0} (R : X → X → Type 0) (xs ys : List X) → ((i : ℕ) (d : X) → i < length xs → R (slice_index_or xs i d) (slice_index_or ys i d)) → (p : ℕ) (x y : X)
    → slice_get xs p ≡ Some x → slice_get ys p ≡ Some y → R x y
each_at R xs ys each p x y is there =
    subst (λ z. R z y) (index_is xs p x x is) (subst (λ z. R (slice_index_or xs p x) z) (index_is ys p y x there) (each p x (below_length xs p x is)))

-- ---- a list of which some items were taken

module _ {X : Type 0} (xs ys all : List X) where
  -- nothing is left
  pub all_yielded : xs ++ ys ≡ all → length ys ≡ 0 → xs ≡ all
  all_yielded is none = by ys is none
    where
      by : (zs : List X) → xs ++ zs ≡ all → length zs ≡ 0 → xs ≡ all
      by [] e n = sym (append-nil xs) ∙ e
      by (z ∷ zs) e n = absurd (omega (arith, n))

  -- the next one is taken
  pub one_yielded : (x : X) (zs : List X) → xs ++ ys ≡ all → ys ≡ x ∷ zs → (xs ++ x ∷ []) ++ zs ≡ all
  one_yielded x zs is next = append_assoc xs (x ∷ []) zs ∙ ap (λ l. xs ++ l) (sym next) ∙ is

min_low : (a b : ℕ) → a ≤ b → min a b ≡ a
min_low a b le = omega (arith, le)

-- how many were taken, with the next one
pub many_yielded : {X : Type 0} (xs zs all : List X) (x : X) (n : ℕ) → (xs ++ x ∷ []) ++ zs ≡ all → length all ≤ 65535 → n ≡ length xs → min (n + 1) 65535 ≡ length (xs ++ x ∷ [])
many_yielded xs zs all x n is few same =
    let one : length (xs ++ x ∷ []) ≡ length xs + 1 = length-append xs (x ∷ []) in
    let whole : length ((xs ++ x ∷ []) ++ zs) ≡ length (xs ++ x ∷ []) + length zs = length-append (xs ++ x ∷ []) zs in
    let le : length xs + 1 ≤ 65535 = omega (arith, one, whole, ap length is, few) in
    ap (λ m. min (m + 1) 65535) same ∙ min_low (length xs + 1) 65535 le ∙ sym one
