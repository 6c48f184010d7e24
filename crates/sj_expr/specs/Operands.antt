-- What a token is as an operand.
use Rattle.std.specs.Prelude.{◌≡◌, ℕ, Bool, true, false, not, ◌&&◌, nat_lt, List, length, codes}
use Rattle.std.specs.List.{list_all}
use Rattle.std.specs.Str.Parse.{digits_value}
use Rattle.sj_grammar.specs.Bytes.{is_digit}
use Rattle.sj_grammar.specs.Lexis.{has_leading_zero}
use Rattle.sj_grammar.specs.Names.{is_name}
use Rattle.sj_grammar.specs.Literals.{is_number, is_largest, is_text}
use Rattle.sj_expr.specs.declared.operands.Operand.{Operand}
use Rattle.sj_expr.specs.declared.operands.Operand.TheVariants as operands

-- digits without a leading zero
abbrev pub is_plain : List ℕ → Bool
is_plain s = nat_lt 0 (length s) && (not (has_leading_zero s) && list_all is_digit s)

-- a number that may stand without a minus
pub record IsSmall (s : List ℕ) (v : ℕ) : Type 0 where
  pub number : is_number s ≡ true
  pub other : is_largest s ≡ false
  pub value : v ≡ digits_value 10 s

abbrev pub IsOperandOf : Operand → List ℕ → Type 0
IsOperandOf (operands.Number v) s = IsSmall s v
IsOperandOf operands.Text s = is_text s ≡ true
IsOperandOf operands.Name s = is_name s ≡ true
IsOperandOf operands.True s = s ≡ codes "true"
IsOperandOf operands.False s = s ≡ codes "false"
