-- Which party has a name or a number.
use Rattle.std.proofs.Common.{◌≡◌, ◌<◌, ◌+◌, ◌∙◌, ℕ, true, false, List, Option, Some, None, min, length, get_or, slice_get, ap, sym, refl, subst, inl, inr, arith}
use Rattle.std.specs.Prelude.{option_and_then, option_map}
use Rattle.std.proofs.lemmas.Bool.{cases_lt}
use Rattle.std.proofs.lemmas.Option.{slice_get-get_or, slice_get-map, slice_get_past}
use Rattle.std.proofs.lemmas.Slice.Eq.{bytes_eq-Decides}
use Rattle.sj_lang.specs.FileAt.{FileAt}
use Rattle.sj_lang.specs.FileView.{file_of, party_of}
use Rattle.sj_lang.specs.declared.file.File.{File}
use Rattle.sj_lang.specs.declared.file.Party.{Party}
use Rattle.sj_seat_local.specs.Parties.{IsNameOf, IsNone, is_word, most_parties, name_of}

-- the word of that number is the party's name
pub name_here : (file : File) (p : ℕ) (q : Party) → p < length file.parties.items → q ≡ get_or file.parties.items p q → name_of (file_of file) p ≡ slice_get file.names.words q.name
name_here file p q lt is =
    ap (option_and_then (λ r. slice_get (file_of file).words r.name)) (slice_get-map party_of file.parties.items p ∙ ap (option_map party_of) (slice_get-get_or file.parties.items p q lt))
    ∙ ap (λ (r : Party). slice_get file.names.words r.name) (sym is)

pub word_is : (word : List ℕ) (o : Option (List ℕ)) → is_word word o ≡ true → o ≡ Some word
word_is word None e = absurd (cc)
word_is word (Some name) e = ap Some ((bytes_eq-Decides name word).0 e)

pub word_isnt : (word : List ℕ) (o : Option (List ℕ)) → is_word word o ≡ false → o ≡ Some word → ⊥
word_isnt word o other is =
    let e : is_word word (Some word) ≡ true = (bytes_eq-Decides word word).1 refl in
    let f : is_word word (Some word) ≡ false = sym (ap (is_word word) is) ∙ other in
    absurd (cc)

-- one more of which it isn't so
pub none_more : (P : ℕ → Type 0) (n : ℕ) → IsNone P n → (P n → ⊥) → IsNone P (n + 1)
none_more P n none other p lt h = elim (cases_lt p n) [
  | inl below ↦ none p below h
  | inr above ↦ let same : p ≡ n = omega (arith, lt, above) in other (subst P same h)
]

-- nor of any where there are no more
pub none_past : (file : FileAt) (P : ℕ → Type 0) → ((p : ℕ) → P p → p < length file.parties) → IsNone P (min (length file.parties) most_parties) → IsNone P most_parties
none_past file P within none p lt h = none p (let few = within p h in omega (arith, lt, few)) h

pub name_within : (file : FileAt) (word : List ℕ) (p : ℕ) → IsNameOf file word p → p < length file.parties
name_within file word p h = elim (cases_lt p (length file.parties)) [
  | inl below ↦ below
  | inr above ↦ let none : name_of file p ≡ None = ap (option_and_then (λ q. slice_get file.words q.name)) (slice_get_past file.parties p above) in absurd (cc)
]
