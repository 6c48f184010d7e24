-- Commands as bytes: an array of words.
use Rattle.std.specs.Prelude.{ℕ, List, ◌++◌, length, codes}
use Rattle.std.specs.Fmt.{decimal}
use Rattle.std.specs.List.{flat_map}

-- the head: how many words follow
unfoldable pub head_text : ℕ → List ℕ
head_text n = codes "*" ++ decimal n ++ codes "\r\n"

-- a word: its length, then its bytes, which may be any
unfoldable pub word_text : List ℕ → List ℕ
word_text word = codes "$" ++ decimal (length word) ++ codes "\r\n" ++ word ++ codes "\r\n"

-- the head and then each word
unfoldable pub command_text : List (List ℕ) → List ℕ
command_text words = head_text (length words) ++ flat_map word_text words
