-- Words that name something, and the words that don't.
use Rattle.std.specs.Prelude.{ℕ, Bool, false, not, ◌&&◌, ◌||◌, List, [], ◌∷◌, codes}
use Rattle.std.specs.List.{list_any, list_all}
use Rattle.std.specs.Str.{bytes_eq}
use Rattle.sj_grammar.specs.Bytes.{is_letter, is_word_byte}

abbrev pub early_reserved : List (List ℕ)
early_reserved = codes "accept" ∷ codes "begin" ∷ codes "boolean" ∷ codes "close" ∷ codes "connect" ∷ codes "delegate" ∷ codes "else" ∷ codes "false" ∷ codes "from" ∷ []

abbrev pub middle_reserved : List (List ℕ)
middle_reserved = codes "if" ∷ codes "int" ∷ codes "inbranch" ∷ codes "inwhile" ∷ codes "let" ∷ codes "not" ∷ codes "outbranch" ∷ codes "outwhile" ∷ codes "party" ∷ []

abbrev pub late_reserved : List (List ℕ)
late_reserved = codes "protocol" ∷ codes "recv" ∷ codes "relay" ∷ codes "request" ∷ codes "send" ∷ codes "session" ∷ codes "String" ∷ codes "to" ∷ codes "true" ∷ []

-- the word stands in the list
abbrev pub is_among : List (List ℕ) → List ℕ → Bool
is_among ws s = list_any (λ w. bytes_eq s w) ws

unfoldable pub is_reserved : List ℕ → Bool
is_reserved s = is_among early_reserved s || (is_among middle_reserved s || is_among late_reserved s)

-- a letter, and then letters and digits
abbrev pub is_word : List ℕ → Bool
is_word [] = false
is_word (b ∷ bs) = is_letter b && list_all is_word_byte bs

abbrev pub is_name : List ℕ → Bool
is_name s = is_word s && not (is_reserved s)
