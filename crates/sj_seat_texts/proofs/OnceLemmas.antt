-- Tables in which each word stands once, and what a word that is added does to them.
use Rattle.std.proofs.Common.{if◌then◌else◌, ◌≡◌, ◌≢◌, ℕ, zero, suc, ◌+◌, ◌<◌, ◌≤◌, max, nat_lt, Bool, true, false, List, [], ◌∷◌, ◌++◌, length, take, slice_get, Some, None, refl, ap, sym, ◌∙◌, arith, inl, inr, ◌⊎◌, length-append, ltb-false}
use Rattle.std.proofs.lemmas.Bool.{cases_lt}
use Rattle.std.proofs.lemmas.Option.{slice_get_past}
use Rattle.sj_lang.specs.Words.{IsAbsent, IsFirstIndex}
use Rattle.sj_seat_texts.specs.Once.{IsCounted, IsEachOnce, most_texts}

-- ---- what stands where

pub get_within : (xs : List (List ℕ)) (k : ℕ) (x : List ℕ) → slice_get xs k ≡ Some x → k < length xs
get_within xs k x e = elim (cases_lt k (length xs)) [
  | inl lt ↦ lt
  | inr ge ↦ let none = slice_get_past xs k ge in absurd (cc)
]

pub get_more : (xs ys : List (List ℕ)) (k : ℕ) (x : List ℕ) → slice_get xs k ≡ Some x → slice_get (xs ++ ys) k ≡ Some x
get_more [] ys k x e = cc
get_more (a ∷ xs) ys zero x e = e
get_more (a ∷ xs) ys (suc k) x e = get_more xs ys k x e

-- in a table with one word more
behind : (xs : List (List ℕ)) (w : List ℕ) (k : ℕ) (x : List ℕ) → slice_get (xs ++ w ∷ []) k ≡ Some x → (slice_get xs k ≡ Some x) ⊎ ((k ≡ length xs) × (w ≡ x))
behind [] w zero x e = inr (refl, cc)
behind [] w (suc k) x e = absurd (cc)
behind (a ∷ xs) w zero x e = inl e
behind (a ∷ xs) w (suc k) x e = elim (behind xs w k x e) [
  | inl here ↦ inl here
  | inr last ↦ inr (ap suc last.0, last.1)
]

-- in the first ones
get_taken : (k : ℕ) (xs : List (List ℕ)) (n : ℕ) (x : List ℕ) → slice_get (take k xs) n ≡ Some x → (slice_get xs n ≡ Some x) × (n < k)
get_taken zero xs n x e = absurd (cc)
get_taken (suc k) [] n x e = absurd (cc)
get_taken (suc k) (a ∷ xs) zero x e = (e, omega arith)
get_taken (suc k) (a ∷ xs) (suc n) x e = let h = get_taken k xs n x e in (h.0, omega (arith, h.1))

get_first : (k : ℕ) (xs : List (List ℕ)) (n : ℕ) (x : List ℕ) → slice_get xs n ≡ Some x → n < k → slice_get (take k xs) n ≡ Some x
get_first zero xs n x e lt = absurd (omega (arith, lt))
get_first (suc k) [] n x e lt = absurd (cc)
get_first (suc k) (a ∷ xs) zero x e lt = e
get_first (suc k) (a ∷ xs) (suc n) x e lt = get_first k xs n x e (omega (arith, lt))

pub take_next : (n : ℕ) (xs : List (List ℕ)) (x : List ℕ) → slice_get xs n ≡ Some x → take n xs ++ x ∷ [] ≡ take (suc n) xs
take_next n [] x e = absurd (cc)
take_next zero (a ∷ xs) x e = let same : a ≡ x = cc in ap (λ y. y ∷ []) (sym same)
take_next (suc n) (a ∷ xs) x e = ap (λ t. a ∷ t) (take_next n xs x e)

-- ---- a word that is absent

-- it is put after the others
pub record IsPutLast (word : List ℕ) (old new : List (List ℕ)) (n : ℕ) : Type 0 where
  pub number : n ≡ length old
  pub table : new ≡ old ++ word ∷ []

put_by : (word : List ℕ) (old new : List (List ℕ)) (n : ℕ) (b : Bool) → nat_lt n (length old) ≡ b → IsAbsent word old → IsFirstIndex word new n → new ≡ (if b then old else old ++ word ∷ [])
    → IsPutLast word old new n
put_by word old new n true lt none h is = absurd (none n (ap (λ t. slice_get t n) (sym is) ∙ h.here))
put_by word old new n false ge none h is =
    let here = ap (λ t. slice_get t n) (sym is) ∙ h.here in
    elim (behind old word n word here) [
      | inl there ↦ absurd (none n there)
      | inr last ↦ record { number = last.0; table = is }
    ]

pub put_last : (word : List ℕ) (old new : List (List ℕ)) (n : ℕ) → IsAbsent word old → IsFirstIndex word new n → new ≡ (if nat_lt n (length old) then old else old ++ word ∷ []) → IsPutLast word old new n
put_last word old new n none h is = put_by word old new n (nat_lt n (length old)) refl none h is

-- and each stands once as before
pub once_more : (old : List (List ℕ)) (word : List ℕ) → IsEachOnce old → IsAbsent word old → IsEachOnce (old ++ word ∷ [])
once_more old word once none n x e = elim (behind old word n x e) [
  | inl here ↦ record { here = e; first = λ k lt there. before here k lt (behind old word k x there) }
  | inr last ↦ record { here = e; first = λ k lt there. after last.0 last.1 k lt (behind old word k x there) }
]
  where
    before : slice_get old n ≡ Some x → (k : ℕ) → k < n → ((slice_get old k ≡ Some x) ⊎ ((k ≡ length old) × (word ≡ x))) → ⊥
    before here k lt (inl there) = (once n x here).first k lt there
    before here k lt (inr last) = absurd (omega (arith, lt, last.0, get_within old n x here))

    after : n ≡ length old → word ≡ x → (k : ℕ) → k < n → ((slice_get old k ≡ Some x) ⊎ ((k ≡ length old) × (word ≡ x))) → ⊥
    after is same k lt (inl there) = none k (there ∙ ap Some (sym same))
    after is same k lt (inr last) = absurd (omega (arith, lt, is, last.0))

-- so many are counted
pub counted_none : IsCounted [] 0
counted_none = record { once = λ n word e. absurd (no n word e); all = refl; few = omega arith }
  where
    no : (n : ℕ) (word : List ℕ) → slice_get [] n ≡ Some word → ⊥
    no zero word e = absurd (cc)
    no (suc n) word e = absurd (cc)

pub counted_more : (old : List (List ℕ)) (word : List ℕ) (count : ℕ) → IsCounted old count → IsAbsent word old → count < most_texts → IsCounted (old ++ word ∷ []) (count + 1)
counted_more old word count h none few = record { once = once_more old word h.once none; all = omega (arith, h.all, length-append old (word ∷ [])); few = omega (arith, few) }

-- ---- words that are added in the order of a table with each once

module _ (all : List (List ℕ)) (once : IsEachOnce all) (k n m : ℕ) (word : List ℕ) (new : List (List ℕ)) (at : slice_get all n ≡ Some word) (h : IsFirstIndex word new m) where
  -- the first k of them stand there, and the one that is added is one of them
  inside : n < k → (b : Bool) → nat_lt m (length (take k all)) ≡ b → new ≡ (if b then take k all else take k all ++ word ∷ []) → new ≡ take (max (n + 1) k) all
  inside below true lt is = is ∙ ap (λ j. take j all) (let e : k ≡ max (n + 1) k = omega (arith, below) in e)
  inside below false lt is =
      let first = get_first k all n word at below in
      let there = ap (λ t. slice_get t n) is ∙ get_more (take k all) (word ∷ []) n word first in
      absurd (h.first n (omega (arith, get_within (take k all) n word first, ltb-false m (length (take k all)) lt)) there)

  -- it comes next
  outside : k ≡ n → (b : Bool) → new ≡ (if b then take k all else take k all ++ word ∷ []) → new ≡ take (max (n + 1) k) all
  outside same true is =
      let there = get_taken k all m word (ap (λ t. slice_get t m) (sym is) ∙ h.here) in
      absurd ((once n word at).first m (omega (arith, same, there.1)) there.0)
  outside same false is =
      is ∙ ap (λ j. take j all ++ word ∷ []) same ∙ take_next n all word at ∙ ap (λ j. take j all) (let e : suc n ≡ max (n + 1) k = omega (arith, same) in e)

  pub grown : n ≤ k → new ≡ (if nat_lt m (length (take k all)) then take k all else take k all ++ word ∷ []) → new ≡ take (max (n + 1) k) all
  grown le is = elim (cases_lt n k) [
    | inl below ↦ inside below (nat_lt m (length (take k all))) refl is
    | inr above ↦ outside (omega (arith, le, above)) (nat_lt m (length (take k all))) is
  ]

-- so many are there
pub there_within : (xs : List (List ℕ)) (n : ℕ) → n < length xs → slice_get xs n ≢ None
there_within [] n lt e = absurd (omega (arith, lt))
there_within (x ∷ xs) zero lt e = absurd (cc)
there_within (x ∷ xs) (suc n) lt e = there_within xs n (omega (arith, lt)) e
