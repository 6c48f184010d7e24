-- The words of a line, split at each single space.
use Rattle.std.specs.Prelude.{ℕ, ◌==◌, List, [], ◌∷◌, Option, Some, None}
use Rattle.std.specs.List.{slice_split, join_with_byte}

-- the words of a line
abbrev pub words_in : List ℕ → List (List ℕ)
words_in line = slice_split (λ b. b == 32) line

-- the words of what is left of a line
abbrev pub words_left : Option (List ℕ) → List (List ℕ)
words_left None = []
words_left (Some bytes) = words_in bytes

-- the bytes of words, with a single space between each two
abbrev pub words_text : List (List ℕ) → List ℕ
words_text ws = join_with_byte 32 ws

-- the next word; where none is left it is empty, and no name
abbrev pub word : List (List ℕ) → List ℕ
word [] = []
word (w ∷ ws) = w

-- the words after it
abbrev pub rest : List (List ℕ) → List (List ℕ)
rest [] = []
rest (w ∷ ws) = ws
