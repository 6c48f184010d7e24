-- What is due in an expression, and so which tokens can stand there.
use Rattle.std.specs.Prelude.{ℕ, suc, Bool, true, false, not, ◌&&◌, ◌||◌, nat_le, nat_lt, List, [], ◌∷◌, ◌++◌, length, codes, Option, Some, None, if◌then◌else◌}
use Rattle.std.specs.Str.{bytes_eq}
use Rattle.sj_lang.specs.Limits.{Limits}
use Rattle.sj_grammar.specs.Names.{is_name}
use Rattle.sj_grammar.specs.Literals.{is_number, is_largest, is_text, inner}
use Rattle.sj_grammar.specs.Layers.{Layer}

-- inside so many parentheses and `not`s
pub data ExpressionDue : Type 0 where
  -- an expression, from its first token on
  whole : ExpressionDue
  factor : ℕ → ExpressionDue
  -- more factors, terms, or a comparison: there may be none
  times : ℕ → ExpressionDue
  plus : ℕ → ExpressionDue
  compare : ℕ → ExpressionDue
  -- the number after a factor's minus
  after_minus : ExpressionDue
  fixed : List ℕ → ExpressionDue

-- what is counted, but for a number after a minus
abbrev pub is_operand : List ℕ → Bool
is_operand s = (is_number s && not (is_largest s)) || (is_text s || (is_name s || (bytes_eq s (codes "true") || bytes_eq s (codes "false"))))

abbrev pub expression_at : ℕ → List ExpressionDue
expression_at o = factor o ∷ times o ∷ plus o ∷ compare o ∷ []

abbrev pub factor_follow : ℕ → List ℕ → Option (List ExpressionDue)
factor_follow o s =
    if is_operand s then Some []
    else (if bytes_eq s (codes "-") then Some (after_minus ∷ [])
    else (if bytes_eq s (codes "not") then Some (factor (suc o) ∷ [])
    else (if bytes_eq s (codes "(") then Some (factor (suc o) ∷ times (suc o) ∷ plus (suc o) ∷ compare (suc o) ∷ fixed (codes ")") ∷ []) else None)))

abbrev pub then_also : Option (List ExpressionDue) → List ExpressionDue → Option (List ExpressionDue)
then_also None ds = None
then_also (Some es) ds = Some (es ++ ds)

abbrev pub expression_follow : ExpressionDue → List ℕ → Option (List ExpressionDue)
expression_follow whole s = then_also (factor_follow 0 s) (times 0 ∷ plus 0 ∷ compare 0 ∷ [])
expression_follow (factor o) s = factor_follow o s
expression_follow (times o) s = if bytes_eq s (codes "*") then Some (factor o ∷ times o ∷ []) else None
expression_follow (plus o) s = if bytes_eq s (codes "+") || bytes_eq s (codes "-") then Some (factor o ∷ times o ∷ plus o ∷ []) else None
expression_follow (compare o) s =
    if bytes_eq s (codes "<") || (bytes_eq s (codes "<=") || bytes_eq s (codes "==")) then Some (factor o ∷ times o ∷ plus o ∷ []) else None
expression_follow after_minus s = if is_number s then Some [] else None
expression_follow (fixed p) s = if bytes_eq s p then Some [] else None

abbrev pub expression_may_be_none : ExpressionDue → Bool
expression_may_be_none whole = false
expression_may_be_none (factor o) = false
expression_may_be_none (times o) = true
expression_may_be_none (plus o) = true
expression_may_be_none (compare o) = true
expression_may_be_none after_minus = false
expression_may_be_none (fixed p) = false

-- operands are counted in the whole expression
abbrev pub expression_counted : ℕ → ExpressionDue → List ℕ → ℕ
expression_counted n whole s = if is_operand s then 1 else 0
expression_counted n (factor o) s = if is_operand s then suc n else n
expression_counted n (times o) s = n
expression_counted n (plus o) s = n
expression_counted n (compare o) s = n
expression_counted n after_minus s = suc n
expression_counted n (fixed p) s = n

-- a text or a name that is too long
abbrev pub is_long : Limits → List ℕ → Bool
is_long L s = (is_text s && nat_lt L.text (length (inner s))) || (is_name s && nat_lt L.name (length s))

-- at a factor, with so many operands before: an operand too many or too long,
-- or a parenthesis or a `not` too deep
abbrev pub factor_passes : Limits → ℕ → ℕ → List ℕ → Bool
factor_passes L n o s =
    if is_operand s then nat_le L.operands n || is_long L s
    else not (bytes_eq s (codes "-")) && nat_le L.nesting o

abbrev pub expression_passes : Limits → ℕ → ExpressionDue → List ℕ → Bool
expression_passes L n whole s = factor_passes L 0 0 s
expression_passes L n (factor o) s = factor_passes L n o s
expression_passes L n (times o) s = false
expression_passes L n (plus o) s = false
expression_passes L n (compare o) s = false
expression_passes L n after_minus s = nat_le L.operands n
expression_passes L n (fixed p) s = false

abbrev pub expression_layer : Layer ExpressionDue
expression_layer = record { follow = expression_follow; may_be_none = expression_may_be_none; counted = expression_counted; passes = expression_passes }
