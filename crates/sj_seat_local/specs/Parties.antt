-- The party that a word names.
use Rattle.std.specs.Prelude.{◌≡◌, ◌⊎◌, ◌<◌, ℕ, Bool, false, List, length, Option, Some, None, decimal, slice_get, option_and_then}
use Rattle.std.specs.Str.{bytes_eq}
use Rattle.sj_lang.specs.FileAt.{FileAt}

-- a party's number is below that
abbrev pub most_parties : ℕ
most_parties = 65535

-- the name of the party
abbrev pub name_of : FileAt → ℕ → Option (List ℕ)
name_of file p = option_and_then (λ q. slice_get file.words q.name) (slice_get file.parties p)

-- whether the name, where there is one, is that word
abbrev pub is_word : List ℕ → Option (List ℕ) → Bool
is_word word None = false
is_word word (Some name) = bytes_eq name word

-- the word is the name of the party
abbrev pub IsNameOf : FileAt → List ℕ → ℕ → Type 0
IsNameOf file word p = name_of file p ≡ Some word

-- the word is its number
abbrev pub IsNumberOf : FileAt → List ℕ → ℕ → Type 0
IsNumberOf file word p = (p < length file.parties) × (word ≡ decimal p)

-- none of the parties before that one is so
abbrev pub IsNone : (ℕ → Type 0) → ℕ → Type 0
IsNone P n = (p : ℕ) → p < n → P p → ⊥

-- it is so of that party, and of none before it
abbrev pub IsFirst : (ℕ → Type 0) → ℕ → Type 0
IsFirst P p = P p × IsNone P p

-- the first party of that name; where none has it, the party of that number; none exactly where there is none of either
abbrev pub NamesParty : FileAt → List ℕ → Option ℕ → Type 0
NamesParty file word (Some p) = IsFirst (IsNameOf file word) p ⊎ (IsNone (IsNameOf file word) most_parties × IsNumberOf file word p)
NamesParty file word None = IsNone (IsNameOf file word) most_parties × IsNone (IsNumberOf file word) most_parties
