-- The commands of a party, as their words.
use Rattle.std.specs.Prelude.{ℕ, List, [], ◌∷◌, ◌++◌, map, codes, Option, Some, None}
use Rattle.std.specs.Fmt.{decimal}
use Rattle.sj_streams.specs.Keys.{file_key_text, id_text}

-- the run gets this text for its file, unless it has one
abbrev pub share_words : (run text : List ℕ) → List (List ℕ)
share_words run text = codes "SETNX" ∷ file_key_text run ∷ text ∷ []

-- the text of the run's file
abbrev pub get_words : (run : List ℕ) → List (List ℕ)
get_words run = codes "GET" ∷ file_key_text run ∷ []

-- the n-th entry of a stream
abbrev pub add_words : (key : List ℕ) → (number : ℕ) → (words : List (List ℕ)) → List (List ℕ)
add_words key number words = codes "XADD" ∷ key ∷ id_text number ∷ words

-- so long the server waits until something comes
abbrev pub block_words : Option ℕ → List (List ℕ)
block_words None = []
block_words (Some time) = codes "BLOCK" ∷ decimal time ∷ []

-- of each stream at most so many entries, from the one after the last that was seen
abbrev pub read_words : (most : ℕ) → (block : Option ℕ) → (keys : List (List ℕ)) → (seen : List ℕ) → List (List ℕ)
read_words most block keys seen = codes "XREAD" ∷ codes "COUNT" ∷ decimal most ∷ (block_words block ++ (codes "STREAMS" ∷ (keys ++ map id_text seen)))
