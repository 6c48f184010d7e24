-- Names and texts in a line of a log: their numbers in the file, or which rule they break.
use Rattle.std.specs.Prelude.{ℕ, Bool, ◌==◌, ◌&&◌, ◌-◌, ◌^◌, nat_lt, nat_le, if◌then◌else◌, List, length, slice_index, Option, Some, None, Result, Ok, Err}
use Rattle.std.specs.List.{list_all}
use Rattle.sj_lang.specs.FileAt.{FileAt, PartyAt, party_named}
use Rattle.sj_lang.specs.Words.{first_index}
use Rattle.sj_grammar.specs.Bytes.{is_printable}
use Rattle.sj_grammar.specs.Names.{is_word}
use Rattle.sj_grammar.specs.Literals.{inner}
use Rattle.sj_log.specs.declared.refusal.LogRule.{LogRule}
use Rattle.sj_log.specs.declared.refusal.LogRule.TheVariants.{L1, L2}
use Rattle.sj_log.specs.Fields.{last_count}

-- the number of what is there, where numbers go so far
abbrev pub number_known : ℕ → Option ℕ → Result ℕ LogRule
number_known most None = Err L2
number_known most (Some n) = if nat_le n most then Ok n else Err L2

-- words and parties have numbers of 16 bits
abbrev pub last_name : ℕ
last_name = 2 ^ 16 - 1

-- a word of the file
unfoldable pub label_read : FileAt → List ℕ → Result ℕ LogRule
label_read file w = if is_word w then number_known last_name (first_index w file.words) else Err L1

-- the first party whose name has that number
abbrev pub party_of_name : List PartyAt → Option ℕ → Option ℕ
party_of_name ps None = None
party_of_name ps (Some n) = if nat_lt (party_named ps n) (length ps) then Some (party_named ps n) else None

-- the name of a party
unfoldable pub party_read : FileAt → List ℕ → Result ℕ LogRule
party_read file w = if is_word w then number_known last_name (party_of_name file.parties (first_index w file.words)) else Err L1

-- between two quotes nothing but what a text of a file may have
abbrev pub is_quoted : List ℕ → Bool
is_quoted w = nat_lt 1 (length w) && (slice_index w 0 == 34 && (slice_index w (length w - 1) == 34 && list_all is_printable (inner w)))

-- a text of the file, in its quotes
unfoldable pub text_read : FileAt → List ℕ → Result ℕ LogRule
text_read file w = if is_quoted w then number_known last_count (first_index (inner w) file.texts) else Err L1
