-- Kinds of bytes.
use Rattle.std.specs.Prelude.{ℕ, Bool, List, [], ◌∷◌, false, not, ◌==◌, ◌&&◌, ◌||◌, nat_le, codes}
use Rattle.std.specs.List.{list_any}
use Rattle.std.specs.Char.{is_ascii_alphabetic, is_ascii_digit}

-- between tokens: a space, a tab, a newline or a carriage return
abbrev pub is_blank : ℕ → Bool
is_blank b = b == 32 || b == 9 || b == 10 || b == 13

abbrev pub is_visible : ℕ → Bool
is_visible b = nat_le 32 b && nat_le b 126

-- a word begins with a letter or `_`
abbrev pub is_letter : ℕ → Bool
is_letter b = is_ascii_alphabetic b || b == 95

abbrev pub is_digit : ℕ → Bool
is_digit b = is_ascii_digit b

abbrev pub is_word_byte : ℕ → Bool
is_word_byte b = is_letter b || is_digit b

abbrev pub quote_byte : ℕ
quote_byte = 34

-- after an opening quote, up to the next quote or the end of the line
abbrev pub is_inside : ℕ → Bool
is_inside b = not (b == quote_byte) && not (b == 10)

-- what a text may have: no quote and no backslash
abbrev pub is_printable : ℕ → Bool
is_printable b = is_visible b && not (b == quote_byte) && not (b == 92)

-- what a comment may have, up to the end of its line
abbrev pub is_comment : ℕ → Bool
is_comment b = is_visible b || b == 9 || b == 13

abbrev pub is_symbol : ℕ → Bool
is_symbol b = list_any (λ c. c == b) (codes "!?<>(){}[]*.,:;+-=")

-- the text begins with that byte
abbrev pub begins_with : ℕ → List ℕ → Bool
begins_with c [] = false
begins_with c (b ∷ bs) = b == c

-- the byte and those after it begin with `<=` or `==`
abbrev pub is_double : ℕ → List ℕ → Bool
is_double b bs = (b == 60 || b == 61) && begins_with 61 bs
