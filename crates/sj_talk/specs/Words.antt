-- The lines of a text, and their words.
use Rattle.std.specs.Prelude.{ℕ, ◌==◌, List, [], ◌∷◌}
use Rattle.std.specs.List.{slice_split}
pub use Rattle.sj_fields.specs.Fields.{words_in, words_left, words_text, word, rest}

-- after the last newline stands a line where anything stands there
abbrev pub last_line : List ℕ → List (List ℕ)
last_line [] = []
last_line (b ∷ bs) = (b ∷ bs) ∷ []

-- the lines, without their newlines
abbrev pub without_last_empty : List (List ℕ) → List (List ℕ)
without_last_empty [] = []
without_last_empty (x ∷ []) = last_line x
without_last_empty (x ∷ y ∷ ys) = x ∷ without_last_empty (y ∷ ys)

-- the lines of a text; a last line may stand without its newline
abbrev pub lines_in : List ℕ → List (List ℕ)
lines_in text = without_last_empty (slice_split (λ b. b == 10) text)
