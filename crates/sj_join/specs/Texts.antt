-- The lines of streams.
use Rattle.std.specs.Prelude.{◌≡◌, ◌<◌, ℕ, ⊤, Bool, true, false, ◌==◌, if◌then◌else◌, is_some, List, [], map, unwrap_or}
use Rattle.std.specs.List.{flat_map, list_all, range_with_len}
use Rattle.sj_streams.specs.Batch.{lines_in}
use Rattle.sj_streams.specs.Reading.{CameAt}
use Rattle.sj_join.specs.declared.refusal.JoinRefusal.{JoinRefusal}
use Rattle.sj_join.specs.declared.refusal.JoinRefusal.TheVariants as joins

-- the entry of these words has lines
abbrev pub has_lines : (words : List (List ℕ)) → Bool
has_lines words = is_some (lines_in words)

-- its lines
abbrev pub lines_at : (words : List (List ℕ)) → List ℕ
lines_at words = unwrap_or (lines_in words) []

-- those of the entries that came, if they are of that stream
abbrev pub lines_if : (stream : ℕ) → CameAt → List ℕ
lines_if stream c = if c.stream == stream then flat_map lines_at c.entries else []

-- the lines that came of that stream
abbrev pub text_by : List CameAt → (stream : ℕ) → List ℕ
text_by came stream = flat_map (lines_if stream) came

-- those of the first streams, so many
abbrev pub texts_by : List CameAt → (count : ℕ) → List (List ℕ)
texts_by came count = map (text_by came) (range_with_len 0 count)

-- each of the entries that came has lines, if they are of that stream
abbrev pub has_all_if : (stream : ℕ) → CameAt → Bool
has_all_if stream c = if c.stream == stream then list_all has_lines c.entries else true

-- each entry that came of that stream has lines
abbrev pub has_all : List CameAt → (stream : ℕ) → Bool
has_all came stream = list_all (has_all_if stream) came

-- some entry of that stream has none; out of memory says nothing
abbrev pub LacksLines : List CameAt → (stream : ℕ) → JoinRefusal → Type 0
LacksLines came stream joins.NoMemory = ⊤
LacksLines came stream (joins.NoLines p) = (p ≡ stream) × (has_all came stream ≡ false)
LacksLines came stream _ = ⊥

-- some entry of one of the first streams, so many, has none
abbrev pub LackLines : List CameAt → (count : ℕ) → JoinRefusal → Type 0
LackLines came count joins.NoMemory = ⊤
LackLines came count (joins.NoLines p) = (p < count) × (has_all came p ≡ false)
LackLines came count _ = ⊥
