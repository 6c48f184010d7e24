-- What is asked of a server, and what it answers.
use Rattle.std.specs.Prelude.{◌≡◌, ℕ, ℤ, List, [], ◌∷◌, codes, map, replicate, Option, Some, None}
use Rattle.std.specs.List.{range_with_len}
use Rattle.sj_lang.specs.Limits.{limits}
use Rattle.sj_remote.specs.declared.conn.Conn.{Conn}
use Rattle.sj_remote.specs.Conn.{Replied}
use Rattle.sj_resp.specs.Spelling.{command_text}
use Rattle.sj_resp.specs.Token.{TokenAt}
use Rattle.sj_streams.specs.Answers.{number_at, text_at, well_at}
use Rattle.sj_streams.specs.Commands.{read_words}
use Rattle.sj_streams.specs.Keys.{file_key_text, log_key_text}
use Rattle.sj_streams.specs.Reading.{CameAt, Good, came_at}

-- the streams of so many parties, from the first on
abbrev pub keys_at : (run : List ℕ) → (parties : ℕ) → List (List ℕ)
keys_at run parties = map (log_key_text run) (range_with_len 0 parties)

-- of no stream was an entry seen
abbrev pub seen_none : (count : ℕ) → List ℕ
seen_none count = replicate count 0

-- more entries than that no stream has
abbrev pub all_entries : ℕ
all_entries = 9223372036854775807

-- one command reads all streams whole, and the server doesn't wait
unfoldable pub read_text : (run : List ℕ) → (parties : ℕ) → List ℕ
read_text run parties = command_text (read_words all_entries None (keys_at run parties) (seen_none parties))

-- one command removes the run's file, and the streams of all parties that a file may have
unfoldable pub drop_text : (run : List ℕ) → List ℕ
drop_text run = command_text (codes "DEL" ∷ file_key_text run ∷ keys_at run limits.parties)

-- the reply that came has that sense
pub record IsAnswered {S K : Type 0} (left : S → Option (List ℕ)) (old new : Conn S K) (Means : List TokenAt → Type 0) : Type 0 where
  pub tokens : List TokenAt
  pub replied : Replied left old new tokens
  pub means : Means tokens

-- it begins with that text
abbrev pub Gives : (text : List ℕ) → List TokenAt → Type 0
Gives text tokens = (rest : List TokenAt) × (text_at tokens ≡ Good (Some text) rest)

-- it is what stands in the streams
abbrev pub Brings : (run : List ℕ) → (parties : ℕ) → List CameAt → List TokenAt → Type 0
Brings run parties came tokens = came_at (keys_at run parties) (seen_none parties) tokens ≡ Good came []

-- it begins with that number
abbrev pub Counts : (n : ℤ) → List TokenAt → Type 0
Counts n tokens = (rest : List TokenAt) × (number_at tokens ≡ Good n rest)

-- it begins with a line that says that the command went well, and is no error
abbrev pub Admits : List TokenAt → Type 0
Admits tokens = (rest : List TokenAt) × (well_at tokens ≡ Good tt rest)
