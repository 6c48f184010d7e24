-- What stands at the start of bytes. Refusals come in the order in which the code finds them.
use Rattle.std.specs.Prelude.{ℕ, ◌+◌, Bool, ◌&&◌, ◌==◌, if◌then◌else◌, nat_lt, List, [], ◌∷◌, length, take, drop, slice_index, Option, Some, None, codes}
use Rattle.std.specs.List.{list_any, position_or_len}
use Rattle.std.specs.Str.{bytes_eq}
use Rattle.sj_resp.specs.Bytes.{carriage_return, newline, plus, minus, colon, dollar}
use Rattle.sj_resp.specs.Limits.{longest_line, most_bytes, most_parts}
use Rattle.sj_resp.specs.Numbers.{int_in, number_in}
use Rattle.sj_resp.specs.Token.{TokenAt, Simple, Failed, Int, Bulk, Null, Array}
use Rattle.sj_resp.specs.declared.refusal.RespRefusal.{RespRefusal}
use Rattle.sj_resp.specs.declared.refusal.RespRefusal.TheVariants as refusals

-- less than a token, no token, or a token and the rest of the bytes
pub data Front : Type 0 where
  Cut : Front
  Refused : RespRefusal → Front
  Whole : TokenAt → (rest : List ℕ) → Front

-- the place of the first carriage return, or the length
abbrev pub line_end : List ℕ → ℕ
line_end bytes = position_or_len (λ b. b == carriage_return) bytes

-- a token where the line is a number of its kind
abbrev pub of_number : {A : Type 0} → (A → TokenAt) → Option A → (rest : List ℕ) → Front
of_number token None rest = Refused refusals.Number
of_number token (Some n) rest = Whole (token n) rest

-- a bulk of that size, with the end of line after it
unfoldable pub bytes_of : (size : ℕ) → List ℕ → Front
bytes_of size bytes =
    if nat_lt (length bytes) (size + 2) then Cut
    else if slice_index bytes size == carriage_return && slice_index bytes (size + 1) == newline
    then Whole (Bulk (take size bytes)) (drop (size + 2) bytes)
    else Refused refusals.End

-- a bulk where the line is a length
abbrev pub of_size : Option ℕ → List ℕ → Front
of_size None bytes = Refused refusals.Number
of_size (Some size) bytes = bytes_of size bytes

-- a length or a count of -1 stands for null
abbrev pub is_null : List ℕ → Bool
is_null line = bytes_eq line (codes "-1")

-- the token of that first byte and line; a bulk goes on after the line
unfoldable pub token_of : (kind : ℕ) → (line rest : List ℕ) → Front
token_of kind line rest =
    if kind == plus then Whole (Simple line) rest
    else if kind == minus then Whole (Failed line) rest
    else if kind == colon then of_number Int (int_in line) rest
    else if is_null line then Whole Null rest
    else if kind == dollar then of_size (number_in 0 most_bytes line) rest
    else of_number Array (number_in 0 most_parts line) rest

-- the first byte of a token is one of `+-:$*`
abbrev pub is_kind : ℕ → Bool
is_kind b = list_any (λ c. c == b) (codes "+-:$*")

-- what is read of the line at the front and of the bytes after it
unfoldable pub line_then : (List ℕ → List ℕ → Front) → List ℕ → Front
line_then read bytes =
    if nat_lt longest_line (line_end bytes) then Refused refusals.Long
    else if nat_lt (length bytes) (line_end bytes + 2) then Cut
    else if slice_index bytes (line_end bytes + 1) == newline
    then read (take (line_end bytes) bytes) (drop (line_end bytes + 2) bytes)
    else Refused refusals.Line

-- the token at the front: an empty list is less than one
unfoldable pub front_of : List ℕ → Front
front_of [] = Cut
front_of (kind ∷ bytes) = if is_kind kind then line_then (token_of kind) bytes else Refused refusals.Kind
