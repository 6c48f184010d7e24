-- The number of a word in a table, and a word that is put into it.
use Rattle.std.proofs.Common.{if◌then◌else◌, ◌≡◌, ℕ, zero, suc, ◌<◌, nat_lt, Bool, true, false, List, [], ◌∷◌, ◌++◌, length, slice_get, Option, Some, None, Result, Ok, Err, IfOk, OnOk, refl, ap, sym, ◌∙◌, arith, subst, inl, inr, length-append, ltb-false}
use Rattle.std.specs.Prelude.{IfSome, IfNone, is_some, unwrap_or}
use Rattle.std.proofs.lemmas.Bool.{cases_lt, cases_order}
use Rattle.std.proofs.lemmas.Option.{slice_get_past}
use Rattle.sj_lang.specs.Words.{IsAbsent, IsFirstIndex, first_index}
use Rattle.sj_lang.proofs.WordLemmas.{IsIndexed, indexed}
use Rattle.sj_talk.specs.Names.{number_in, with_word}

-- ---- the one number of a word

same_number : (word : List ℕ) (words : List (List ℕ)) (m n : ℕ) → IsFirstIndex word words m → IsFirstIndex word words n → m ≡ n
same_number word words m n g h = elim (cases_order m n) [
  | inl same ↦ same
  | inr (inl below) ↦ absurd (h.first m below g.here)
  | inr (inr above) ↦ absurd (g.first n above h.here)
]

number_is : (word : List ℕ) (words : List (List ℕ)) (o r : Option ℕ) → IsIndexed word words o → IsIndexed word words r → r ≡ o
number_is word words (Some n) (Some m) h g = ap (λ k. Some k) (same_number word words m n g h)
number_is word words (Some n) None h g = absurd (g n h.here)
number_is word words None (Some m) h g = absurd (h m g.here)
number_is word words None None h g = refl

indexed_from : (word : List ℕ) (words : List (List ℕ)) (r : Option ℕ) → IfSome r (IsFirstIndex word words) → IfNone r (IsAbsent word words) → IsIndexed word words r
indexed_from word words (Some n) here none = here
indexed_from word words None here none = none

-- what a search answers is the number at which the word stands first
pub index_is : (word : List ℕ) (words : List (List ℕ)) (r : Option ℕ) → IfSome r (IsFirstIndex word words) → IfNone r (IsAbsent word words) → r ≡ first_index word words
index_is word words r some none = number_is word words (first_index word words) r (indexed word words) (indexed_from word words r some none)

-- ---- a word that is put into the table

get_push : (xs ys : List (List ℕ)) (k : ℕ) (x : List ℕ) → slice_get xs k ≡ Some x → slice_get (xs ++ ys) k ≡ Some x
get_push [] ys k x e = cc
get_push (a ∷ xs) ys zero x e = e
get_push (a ∷ xs) ys (suc k) x e = get_push xs ys k x e

get_within : (xs : List (List ℕ)) (k : ℕ) (x : List ℕ) → slice_get xs k ≡ Some x → k < length xs
get_within xs k x e = elim (cases_lt k (length xs)) [
  | inl lt ↦ lt
  | inr ge ↦ let none = slice_get_past xs k ge in absurd (cc)
]

-- the number of the word, and the table with it
pub record IsAdded (word : List ℕ) (old new : List (List ℕ)) (n : ℕ) : Type 0 where
  pub number : n ≡ number_in old word
  pub table : new ≡ with_word old word

at_end : (word : List ℕ) (old : List (List ℕ)) (n : ℕ) → nat_lt n (length old) ≡ false → IsFirstIndex word (old ++ word ∷ []) n → n ≡ length old
at_end word old n ge h =
    let within = get_within (old ++ word ∷ []) n word h.here in
    omega (arith, within, length-append old (word ∷ []), ltb-false n (length old) ge)

added_by : (word : List ℕ) (old new : List (List ℕ)) (n : ℕ) (b : Bool) (o : Option ℕ) → nat_lt n (length old) ≡ b → IsIndexed word old o → new ≡ (if b then old else old ++ word ∷ [])
    → IsFirstIndex word new n → (n ≡ unwrap_or o (length old)) × (new ≡ (if is_some o then old else old ++ word ∷ []))
added_by word old new n true (Some m) lt was is h = (same_number word old n m (subst (λ (t : List (List ℕ)). IsFirstIndex word t n) is h) was, is)
added_by word old new n true None lt was is h = absurd (was n (ap (λ t. slice_get t n) (sym is) ∙ h.here))
added_by word old new n false (Some m) ge was is h =
    let here = subst (λ (t : List (List ℕ)). IsFirstIndex word t n) is h in
    absurd (here.first m (omega (arith, get_within old m word was.here, ltb-false n (length old) ge)) (get_push old (word ∷ []) m word was.here))
added_by word old new n false None ge was is h = (at_end word old n ge (subst (λ (t : List (List ℕ)). IsFirstIndex word t n) is h), is)

pub added_is : (word : List ℕ) (old new : List (List ℕ)) (n : ℕ) → IsFirstIndex word new n → new ≡ (if nat_lt n (length old) then old else old ++ word ∷ []) → IsAdded word old new n
added_is word old new n h is =
    let both = added_by word old new n (nat_lt n (length old)) (first_index word old) refl (indexed word old) is h in
    record { number = both.0; table = both.1 }

-- as the call answers it
module _ {E : Type 0} (word : List ℕ) (old new : List (List ℕ)) where
  pub added_number : (r : Result ℕ E) → IfOk r (IsFirstIndex word new) → IfOk r (λ n. new ≡ (if nat_lt n (length old) then old else old ++ word ∷ [])) → IfOk r (λ n. n ≡ number_in old word)
  added_number (Ok n) h is = (added_is word old new n h is).number
  added_number (Err e) h is = tt

  pub added_table : (r : Result ℕ E) → IfOk r (IsFirstIndex word new) → IfOk r (λ n. new ≡ (if nat_lt n (length old) then old else old ++ word ∷ [])) → OnOk r (new ≡ with_word old word)
  added_table (Ok n) h is = (added_is word old new n h is).table
  added_table (Err e) h is = tt
