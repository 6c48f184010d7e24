-- The forms of a line, and what a line says.
use Rattle.std.specs.Prelude.{ℕ, zero, suc, ◌-◌, Bool, true, false, ◌==◌, ◌&&◌, nat_le, nat_lt, if◌then◌else◌, ℤ, pos, negsuc, List, length, drop, slice_index, codes, Option, Some, None, option_and_then, option_map}
use Rattle.std.specs.List.{list_all}
use Rattle.std.specs.Str.{bytes_eq}
use Rattle.std.specs.Str.Parse.{digits_value}
use Rattle.sj_grammar.specs.Bytes.{begins_with, is_printable, quote_byte}
use Rattle.sj_grammar.specs.Lexis.{most}
use Rattle.sj_grammar.specs.Literals.{inner, is_number}
use Rattle.sj_grammar.specs.Names.{is_name}
use Rattle.sj_lang.specs.Limits.{limits}
use Rattle.sj_talk.specs.Words.{rest, word, words_in, words_text}

-- a number, a truth value or a text
pub data ValueAt : Type 0 where
  number : ℤ → ValueAt
  truth : Bool → ValueAt
  text : List ℕ → ValueAt

-- what a line asks the party to do; ends and labels by their names
pub data FormAt : Type 0 where
  send : List ℕ → ValueAt → FormAt
  select : List ℕ → List ℕ → FormAt
  -- `more`, or `stop`
  turn : List ℕ → Bool → FormAt
  delegate : List ℕ → List ℕ → FormAt
  take : List ℕ → FormAt
  -- the end that is taken gets the second name
  take_end : List ℕ → List ℕ → FormAt
  close : List ℕ → FormAt

-- a name of the grammar, within its limit
abbrev pub is_short_name : List ℕ → Bool
is_short_name w = is_name w && nat_le (length w) limits.name

-- between two quotes nothing but what a text of a file may have, within its limit
abbrev pub is_short_text : List ℕ → Bool
is_short_text w =
    nat_lt 1 (length w) && (slice_index w 0 == quote_byte && (slice_index w (length w - 1) == quote_byte
    && (list_all is_printable (inner w) && nat_le (length (inner w)) limits.text)))

-- the number below zero, or zero
abbrev pub minus : ℕ → ℤ
minus zero = pos 0
minus (suc n) = negsuc n

-- the number that digits write, up to 2^63
abbrev pub number_of : List ℕ → Option ℕ
number_of w = if is_number w then Some (digits_value 10 w) else None

-- without a minus a number is below 2^63
abbrev pub plus : ℕ → Option ℤ
plus n = if nat_lt n most then Some (pos n) else None

-- digits, or `-` and digits
unfoldable pub int_of : List ℕ → Option ℤ
int_of w = if begins_with 45 w then option_map minus (number_of (drop 1 w)) else option_and_then plus (number_of w)

-- what the bytes of a value stand for
unfoldable pub value_of : List ℕ → Option ValueAt
value_of w =
    if bytes_eq w (codes "true") then Some (truth true)
    else (if bytes_eq w (codes "false") then Some (truth false)
    else (if is_short_text w then Some (text (inner w)) else option_map number (int_of w)))

-- a verb and an end
unfoldable pub alone : List ℕ → List ℕ → Option FormAt
alone verb x =
    if bytes_eq verb (codes "take") then Some (take x)
    else (if bytes_eq verb (codes "close") then Some (close x)
    else (if bytes_eq verb (codes "more") then Some (turn x true)
    else (if bytes_eq verb (codes "stop") then Some (turn x false) else None)))

-- a verb, an end and a name
unfoldable pub with_name : List ℕ → List ℕ → List ℕ → Option FormAt
with_name verb x y =
    if bytes_eq verb (codes "select") then Some (select x y)
    else (if bytes_eq verb (codes "delegate") then Some (delegate x y)
    else (if bytes_eq verb (codes "take") then Some (take_end x y) else None))

-- a verb, an end, and the words after it; a text may have spaces in it
unfoldable pub with_words : List ℕ → List ℕ → List (List ℕ) → Option FormAt
with_words verb x more =
    if bytes_eq verb (codes "send") then option_map (send x) (value_of (words_text more))
    else (if length more == 0 then alone verb x
    else (if length more == 1 && is_short_name (word more) then with_name verb x (word more) else None))

-- what words stand for
unfoldable pub form_of_words : List (List ℕ) → Option FormAt
form_of_words ws = if is_short_name (word (rest ws)) then with_words (word ws) (word (rest ws)) (rest (rest ws)) else None

-- what a line stands for, where it has one of the forms
abbrev pub form_of : List ℕ → Option FormAt
form_of line = form_of_words (words_in line)
