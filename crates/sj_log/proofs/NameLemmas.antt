-- The one number of a word.
use Rattle.std.proofs.Common.{◌≡◌, ℕ, List, Option, Some, None, refl, ap, inl, inr}
use Rattle.std.specs.Prelude.{IfSome, IfNone}
use Rattle.std.proofs.lemmas.Bool.{cases_order}
use Rattle.sj_lang.specs.Words.{IsFirstIndex, IsAbsent}
use Rattle.sj_lang.proofs.WordLemmas.{IsIndexed}

same_number : (word : List ℕ) (words : List (List ℕ)) (m n : ℕ) → IsFirstIndex word words m → IsFirstIndex word words n → m ≡ n
same_number word words m n g h = elim (cases_order m n) [
  | inl same ↦ same
  | inr (inl below) ↦ absurd (h.first m below g.here)
  | inr (inr above) ↦ absurd (g.first n above h.here)
]

pub number_is : (word : List ℕ) (words : List (List ℕ)) (o r : Option ℕ) → IsIndexed word words o → IsIndexed word words r → r ≡ o
number_is word words (Some n) (Some m) h g = ap (λ k. Some k) (same_number word words m n g h)
number_is word words (Some n) None h g = absurd (g n h.here)
number_is word words None (Some m) h g = absurd (h m g.here)
number_is word words None None h g = refl

pub indexed_from : (word : List ℕ) (words : List (List ℕ)) (r : Option ℕ) → IfSome r (IsFirstIndex word words) → IfNone r (IsAbsent word words) → IsIndexed word words r
indexed_from word words (Some n) here none = here
indexed_from word words None here none = none
