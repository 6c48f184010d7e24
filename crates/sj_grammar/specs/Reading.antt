-- A text that is read token by token.
use Rattle.std.specs.Prelude.{ℕ, ◌+◌, ◌-◌, List, [], ◌++◌, length, take, Result, Ok, Err, if◌then◌else◌, ◌==◌}
use Rattle.std.specs.List.{fold}
use Rattle.sj_grammar.specs.declared.tokens.What.{What}
use Rattle.sj_grammar.specs.declared.tokens.What.TheVariants.{End}
use Rattle.sj_grammar.specs.declared.tokens.Token.{Token}
use Rattle.sj_grammar.specs.declared.tokens.Fault.{Fault}
use Rattle.sj_grammar.specs.declared.tokens.Rule.{Rule}
use Rattle.sj_grammar.specs.Lexis.{Ahead, at_end, bad, token}

-- what was read, and what is ahead
pub record Reading : Type 0 where
  pub before : List ℕ
  pub ahead : List ℕ

-- lines and columns count from 1; a column is a byte
abbrev pub line_number : List ℕ → ℕ
line_number before = fold (λ n b. if b == 10 then n + 1 else n) 1 before

abbrev pub column_number : List ℕ → ℕ
column_number before = fold (λ n b. if b == 10 then 1 else n + 1) 1 before

-- what was read once only the rest is ahead
abbrev pub passed : Reading → List ℕ → List ℕ
passed r rest = r.before ++ take (length r.ahead - length rest) r.ahead

-- what stands before what comes next: before the byte of a fault, before a token, or the whole text
abbrev pub before_next : Reading → Ahead → List ℕ
before_next r at_end = r.before ++ r.ahead
before_next r (bad rule rest) = passed r rest
before_next r (token what spelled rest) = passed r (spelled ++ rest)

abbrev pub fault_at : List ℕ → Rule → Fault
fault_at before rule = record { rule = rule; line = line_number before; column = column_number before }

abbrev pub token_at : List ℕ → What → List ℕ → Token
token_at before what spelled =
    record { what = what; from = length before; to = length before + length spelled; line = line_number before; column = column_number before }

-- what a reader of tokens answers
abbrev pub answer_to : Reading → Ahead → Result Token Fault
answer_to r at_end = Ok (token_at (before_next r at_end) End [])
answer_to r (bad rule rest) = Err (fault_at (before_next r (bad rule rest)) rule)
answer_to r (token what spelled rest) = Ok (token_at (before_next r (token what spelled rest)) what spelled)

-- where it then stands; after a fault all stays
abbrev pub reading_after : Reading → Ahead → Reading
reading_after r at_end = record { before = r.before ++ r.ahead; ahead = [] }
reading_after r (bad rule rest) = r
reading_after r (token what spelled rest) = record { before = passed r rest; ahead = rest }
