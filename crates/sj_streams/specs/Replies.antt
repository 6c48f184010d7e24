-- Replies to a read, as their tokens.
use Rattle.std.specs.Prelude.{◌≡◌, ℕ, ◌+◌, ◌<◌, List, [], ◌∷◌, ◌++◌, length, get_or, map}
use Rattle.std.specs.List.{flat_map}
use Rattle.sj_resp.specs.Token.{TokenAt, Bulk, Null, Array}
use Rattle.sj_streams.specs.Keys.{id_text}
use Rattle.sj_streams.specs.Reading.{CameAt, place_in}

-- the entry of that number: its name, and its words
abbrev pub entry_tokens : (number : ℕ) → (words : List (List ℕ)) → List TokenAt
entry_tokens number words = Array 2 ∷ Bulk (id_text number) ∷ Array (length words) ∷ map Bulk words

-- the entries from that number on
abbrev pub entries_tokens : (from : ℕ) → (entries : List (List (List ℕ))) → List TokenAt
entries_tokens from [] = []
entries_tokens from (words ∷ others) = entry_tokens from words ++ entries_tokens (from + 1) others

-- one stream, under its key
abbrev pub stream_tokens : (keys : List (List ℕ)) → CameAt → List TokenAt
stream_tokens keys c = Array 2 ∷ Bulk (get_or keys c.stream []) ∷ Array (length c.entries) ∷ entries_tokens c.first c.entries

-- all that came; a null where nothing came
abbrev pub came_tokens : (keys : List (List ℕ)) → List CameAt → List TokenAt
came_tokens keys [] = Null ∷ []
came_tokens keys (c ∷ cs) = Array (length (c ∷ cs)) ∷ flat_map (stream_tokens keys) (c ∷ cs)

-- it is one of the streams that were asked for, and goes on after the last entry that was seen of it
pub record IsNext (keys : List (List ℕ)) (seen : List ℕ) (c : CameAt) : Type 0 where
  pub within : c.stream < length keys
  pub place : place_in (get_or keys c.stream []) keys ≡ c.stream
  pub first : c.first ≡ get_or seen c.stream 0 + 1
