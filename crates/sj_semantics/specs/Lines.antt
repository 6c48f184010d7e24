-- Lines, and what stands in them for words, parties, ends and messages.
use Rattle.std.specs.Prelude.{ℕ, ◌+◌, true, false, ℤ, pos, negsuc, List, [], ◌∷◌, ◌++◌, slice_get, Option, Some, None, decimal, codes}
use Rattle.sj_base.specs.declared.Msg.{Msg}
use Rattle.sj_base.specs.declared.Msg.TheVariants as msgs
use Rattle.sj_lang.specs.FileAt.{FileAt, PartyAt}

-- a line of the words, with one space between each two
abbrev pub line_of : List (List ℕ) → List ℕ
line_of [] = 10 ∷ []
line_of (x ∷ []) = x ++ 10 ∷ []
line_of (x ∷ y ∷ xs) = x ++ 32 ∷ line_of (y ∷ xs)

-- a word by its number, or `#` and the number
abbrev pub or_number : ℕ → Option (List ℕ) → List ℕ
or_number n None = 35 ∷ decimal n
or_number n (Some word) = word

-- the word of that number
abbrev pub word_at : List (List ℕ) → ℕ → List ℕ
word_at words n = or_number n (slice_get words n)

-- a text in its quotes
abbrev pub in_quotes : List ℕ → List ℕ
in_quotes text = 34 ∷ text ++ 34 ∷ []

-- a text in its quotes, or `#` and the number alone
abbrev pub quoted_or_number : ℕ → Option (List ℕ) → List ℕ
quoted_or_number n None = or_number n None
quoted_or_number n (Some text) = in_quotes text

-- the text of that number, in its quotes
abbrev pub quoted_at : List (List ℕ) → ℕ → List ℕ
quoted_at texts n = quoted_or_number n (slice_get texts n)

-- the party's name, or `#` and its number
abbrev pub name_if : FileAt → ℕ → Option PartyAt → List ℕ
name_if file p None = or_number p None
name_if file p (Some q) = word_at file.words q.name

-- the name of a party by its number
abbrev pub name_of : FileAt → ℕ → List ℕ
name_of file p = name_if file p (slice_get file.parties p)

-- an end as session, dot and side
abbrev pub end_text : ℕ → ℕ → List ℕ
end_text s d = decimal s ++ 46 ∷ decimal d

-- a number with `-` before it where it is negative
abbrev pub int_text : ℤ → List ℕ
int_text (pos n) = decimal n
int_text (negsuc n) = 45 ∷ decimal (n + 1)

-- the words of a message
abbrev pub message_words : FileAt → Msg → List (List ℕ)
message_words file (msgs.Int n) = codes "int" ∷ int_text n ∷ []
message_words file (msgs.Bool true) = codes "boolean" ∷ codes "true" ∷ []
message_words file (msgs.Bool false) = codes "boolean" ∷ codes "false" ∷ []
message_words file (msgs.Text n) = codes "String" ∷ quoted_at file.texts n ∷ []
message_words file (msgs.Label l) = codes "label" ∷ word_at file.words l ∷ []
message_words file (msgs.More true) = codes "more" ∷ []
message_words file (msgs.More false) = codes "stop" ∷ []
message_words file (msgs.Sess s d k) = codes "session" ∷ end_text s d ∷ name_of file k ∷ []
