-- A command as its tokens, and tokens that are read one after another.
use Rattle.std.specs.Prelude.{◌≡◌, ℕ, List, [], ◌∷◌, length, map}
use Rattle.sj_resp.specs.Front.{Whole, front_of}
use Rattle.sj_resp.specs.Token.{TokenAt, Array, Bulk}

-- the head of an array of so many parts, then each word as a bulk
abbrev pub command_tokens : List (List ℕ) → List TokenAt
command_tokens words = Array (length words) ∷ map Bulk words

-- these tokens come from the bytes one after another, and leave the rest
abbrev pub AreRead : List TokenAt → (bytes rest : List ℕ) → Type 0
AreRead [] bytes rest = bytes ≡ rest
AreRead (t ∷ ts) bytes rest = (next : List ℕ) × (front_of bytes ≡ Whole t next) × AreRead ts next rest
