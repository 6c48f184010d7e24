-- What comes next, by positions in the whole text.
use Rattle.std.specs.Prelude.{◌≡◌, ℕ, ◌+◌, ◌-◌, ◌≤◌, ◌<◌, List, length, take, drop, Option, Some, None, if◌then◌else◌, nat_lt}
use Rattle.std.specs.Str.Parse.{digits_value}
use Rattle.sj_grammar.specs.Lexis.{Ahead, at_end, bad, token, most}
use Rattle.sj_grammar.specs.Reading.{line_number, column_number}
use Rattle.sj_proto.specs.declared.scan.Found.{Found}
use Rattle.sj_proto.specs.declared.scan.Found.TheVariants as found
use Rattle.sj_lang.specs.Limits.{file_limit}

abbrev pub found_of : List ℕ → Found → Ahead
found_of bytes found.Nothing = at_end
found_of bytes (found.Bad rule place) = bad rule (drop place bytes)
found_of bytes (found.Piece what from to) = token what (take (to - from) (drop from bytes)) (drop to bytes)

-- the positions are ahead, and within the text
abbrev pub IsAhead : ℕ → List ℕ → Found → Type 0
IsAhead at bytes found.Nothing = Unit {0}
IsAhead at bytes (found.Bad rule place) = (at ≤ place) × (place ≤ length bytes)
IsAhead at bytes (found.Piece what from to) = (at ≤ from) × (from < to) × (to ≤ length bytes)

-- where it begins
abbrev pub spot_of : List ℕ → Found → ℕ
spot_of bytes found.Nothing = length bytes
spot_of bytes (found.Bad rule place) = place
spot_of bytes (found.Piece what from to) = from

-- the number that the digits write, up to the largest
abbrev pub value_of : List ℕ → Option ℕ
value_of ds = if nat_lt most (digits_value 10 ds) then None else Some (digits_value 10 ds)

-- the position, with its line and its column, in a text that isn't too long
pub record IsPosition (bytes : List ℕ) (at l c : ℕ) : Type 0 where
  pub within : at ≤ length bytes
  pub short : length bytes ≤ file_limit
  pub line : l ≡ line_number (take at bytes)
  pub column : c ≡ column_number (take at bytes)
  pub few_lines : l ≤ at + 1
  pub few_columns : c ≤ at + 1
