-- Words of a line, and what each may be.
use Rattle.std.specs.Prelude.{ℕ, ◌==◌, List, [], ◌∷◌, length, Bool, false, not, ◌&&◌, ◌||◌, Option, Some, None, if◌then◌else◌, nat_le, nat_eq, codes}
use Rattle.std.specs.List.{before_first, after_first, list_all}
use Rattle.std.specs.Str.{bytes_eq}
use Rattle.sj_draw.specs.declared.words.Field.{Field}
use Rattle.sj_draw.specs.declared.words.Field.TheVariants.{Number, End, Name, Resend}

-- what stands before the first byte of that code, or all where there is none
abbrev pub before : ℕ → List ℕ → List ℕ
before at text = before_first (λ b. nat_eq b at) text

-- what stands after it, or nothing where there is none
abbrev pub behind : ℕ → List ℕ → List ℕ
behind at text = after_first (λ b. nat_eq b at) text

-- the first word of a line, and what stands after it
abbrev pub word : List ℕ → List ℕ
word text = before 32 text

abbrev pub words_behind : List ℕ → List ℕ
words_behind text = behind 32 text

abbrev pub are_digits : List ℕ → Bool
are_digits w = list_all (λ b. nat_le 48 b && nat_le b 57) w

-- one digit or more
abbrev pub is_number : List ℕ → Bool
is_number w = not (length w == 0) && are_digits w

-- a session, a dot and a side
abbrev pub is_end : List ℕ → Bool
is_end w = is_number (before 46 w) && (bytes_eq (behind 46 w) (codes "0") || bytes_eq (behind 46 w) (codes "1"))

-- what a word has to be
abbrev pub is_of : Field → List ℕ → Bool
is_of Number w = is_number w
is_of End w = is_end w
is_of Name w = not (length w == 0)
is_of Resend w = is_number w || bytes_eq w (codes "-")

-- what stands after the words that have to be these, if they are
abbrev pub behind_fields : List Field → List ℕ → Option (List ℕ)
behind_fields [] text = Some text
behind_fields (f ∷ fs) text = if is_of f (word text) then behind_fields fs (words_behind text) else None

-- nothing is left
abbrev pub is_end_of_line : Option (List ℕ) → Bool
is_end_of_line None = false
is_end_of_line (Some rest) = length rest == 0

-- the words are these and no others
abbrev pub is_just : List Field → List ℕ → Bool
is_just fields text = is_end_of_line (behind_fields fields text)
