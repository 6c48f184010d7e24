-- Tables in which each word stands once.
use Rattle.std.specs.Prelude.{◌≡◌, ℕ, ◌≤◌, ◌^◌, List, [], ◌∷◌, ◌++◌, length, Some, is_some, slice_get, if◌then◌else◌}
use Rattle.sj_lang.specs.Words.{IsFirstIndex, first_index}

-- wherever a word stands it stands first
abbrev pub IsEachOnce : List (List ℕ) → Type 0
IsEachOnce words = (n : ℕ) (word : List ℕ) → slice_get words n ≡ Some word → IsFirstIndex word words n

-- a message names no more texts
abbrev pub most_texts : ℕ
most_texts = 2 ^ 32

-- each text stands once, and there are so many, which messages can name
pub record IsCounted (texts : List (List ℕ)) (count : ℕ) : Type 0 where
  pub once : IsEachOnce texts
  pub all : count ≡ length texts
  pub few : count ≤ most_texts

-- the table with the word, which is put after the others where it isn't there
abbrev pub with_word : List (List ℕ) → List ℕ → List (List ℕ)
with_word table word = if is_some (first_index word table) then table else table ++ word ∷ []

-- the table with these words, one after another
abbrev pub with_words : List (List ℕ) → List (List ℕ) → List (List ℕ)
with_words table [] = table
with_words table (w ∷ ws) = with_words (with_word table w) ws
