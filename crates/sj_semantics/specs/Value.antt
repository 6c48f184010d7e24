-- Values of variables, and what an expression is worth.
use Rattle.std.specs.Prelude.{ℕ, min, ◌==◌, Bool, true, false, not, ◌&&◌, ℤ, pos, negsuc, int_lt, int_le, Option, Some, None, option_and_then, if◌then◌else◌}
use Rattle.std.specs.Int.{int_wrapping_add, int_wrapping_sub, int_wrapping_mul, w64}
use Rattle.sj_base.specs.declared.Msg.{Msg}
use Rattle.sj_base.specs.declared.Msg.TheVariants as msgs
use Rattle.sj_lang.specs.declared.party.Op.{Op}
use Rattle.sj_lang.specs.declared.party.Op.TheVariants.{Add, Sub, Mul, Less, LessEq, Equal}
use Rattle.sj_lang.specs.Term.{Term}
use Rattle.sj_lang.specs.Term as terms
use Rattle.sj_semantics.specs.declared.Value.{Value}
use Rattle.sj_semantics.specs.declared.Value.TheVariants.{Int, Boolean, Text}

-- the values of variables, by their names
abbrev pub Vars : Type 0
Vars = ℕ → Option Value

-- no variable is known
abbrev pub no_vars : Vars
no_vars n = None

-- the variable has that value
abbrev pub with_value : Vars → ℕ → Value → Vars
with_value vars n v m = if m == n then Some v else vars m

-- the message that carries the value
abbrev pub message_of : Value → Msg
message_of (Int n) = msgs.Int n
message_of (Boolean b) = msgs.Bool b
message_of (Text n) = msgs.Text n

-- the value that a message carries
abbrev pub value_of : Msg → Option Value
value_of (msgs.Int n) = Some (Int n)
value_of (msgs.Bool b) = Some (Boolean b)
value_of (msgs.Text n) = Some (Text n)
value_of _ = None

-- the two numbers are one
abbrev pub is_same_int : ℤ → ℤ → Bool
is_same_int a b = int_le a b && int_le b a

-- the two truth values are one
abbrev pub is_same_bool : Bool → Bool → Bool
is_same_bool true b = b
is_same_bool false b = not b

-- the result of an operator, where its operands are of its kinds: sums, differences and
-- products wrap at 64 bits
abbrev pub result_of : Op → Value → Value → Option Value
result_of Add (Int a) (Int b) = Some (Int (int_wrapping_add w64 a b))
result_of Sub (Int a) (Int b) = Some (Int (int_wrapping_sub w64 a b))
result_of Mul (Int a) (Int b) = Some (Int (int_wrapping_mul w64 a b))
result_of Less (Int a) (Int b) = Some (Boolean (int_lt a b))
result_of LessEq (Int a) (Int b) = Some (Boolean (int_le a b))
result_of Equal (Int a) (Int b) = Some (Boolean (is_same_int a b))
result_of Equal (Boolean a) (Boolean b) = Some (Boolean (is_same_bool a b))
result_of Equal (Text a) (Text b) = Some (Boolean (a == b))
result_of _ _ _ = None

-- the other truth value
abbrev pub negation_of : Value → Option Value
negation_of (Boolean b) = Some (Boolean (not b))
negation_of _ = None

-- what an expression is worth, where each variable is known and each operand is of its kind
abbrev pub worth : Vars → Term → Option Value
worth vars (terms.int n) = Some (Int n)
worth vars (terms.boolean b) = Some (Boolean b)
worth vars (terms.text n) = Some (Text n)
worth vars (terms.var n) = vars n
worth vars (terms.not e) = option_and_then negation_of (worth vars e)
worth vars (terms.two op e f) = option_and_then (λ a. option_and_then (result_of op a) (worth vars f)) (worth vars e)

-- a loop turns so often at most
abbrev pub limit_of_turns : ℕ
limit_of_turns = 1000

-- how often a loop with that count turns
abbrev pub turns_of : Value → Option ℕ
turns_of (Int (pos n)) = Some (min n limit_of_turns)
turns_of (Int (negsuc n)) = Some 0
turns_of _ = None

-- whether a condition of that value holds
abbrev pub truth_of : Value → Option Bool
truth_of (Boolean b) = Some b
truth_of _ = None
