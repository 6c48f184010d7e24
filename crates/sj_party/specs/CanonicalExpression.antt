-- The canonical text of an expression:
-- parentheses only where the grammar needs them for the same tree.
use Rattle.std.specs.Prelude.{ℕ, Bool, true, false, List, ◌++◌, codes, if◌then◌else◌}
use Rattle.std.specs.Fmt.{signed_decimal}
use Rattle.sj_lang.specs.declared.file.Names.{Names}
use Rattle.sj_lang.specs.declared.party.Op.{Op}
use Rattle.sj_lang.specs.declared.party.Op.TheVariants.{Add, Sub, Mul, Less, LessEq, Equal}
use Rattle.sj_lang.specs.Term.{Term, int, boolean, text, var, not, two}
use Rattle.sj_grammar.specs.Literals.{quoted}
use Rattle.sj_grammar.specs.Tables.{Spelling, entry_of}
use Rattle.sj_grammar.specs.Expressions.{Level, whole, sum, term, factor}
use Rattle.sj_expr.specs.Signs.{op_piece}

-- the spelling that tables have
abbrev pub spelling_of : Names → Spelling
spelling_of names = record { word = entry_of names.words; text = entry_of names.texts }

-- what an operator takes on its left
abbrev pub left_of : Op → Level
left_of Add = sum
left_of Sub = sum
left_of Mul = term
left_of Less = sum
left_of LessEq = sum
left_of Equal = sum

-- and on its right, since sums and terms group to the left
abbrev pub right_of : Op → Level
right_of Add = term
right_of Sub = term
right_of Mul = factor
right_of Less = sum
right_of LessEq = sum
right_of Equal = sum

-- where an expression of that level is wanted, two operands of that operator stand in parentheses
abbrev pub needs_parens : Level → Op → Bool
needs_parens whole op = false
needs_parens sum Add = false
needs_parens sum Sub = false
needs_parens sum Mul = false
needs_parens sum Less = true
needs_parens sum LessEq = true
needs_parens sum Equal = true
needs_parens term Add = true
needs_parens term Sub = true
needs_parens term Mul = false
needs_parens term Less = true
needs_parens term LessEq = true
needs_parens term Equal = true
needs_parens factor op = true

-- in parentheses where they are needed
abbrev pub enclosed : Bool → List ℕ → List ℕ
enclosed needed t = if needed then codes "(" ++ (t ++ codes ")") else t

-- an operator between spaces
abbrev pub spaced_op : Op → List ℕ
spaced_op op = codes " " ++ (op_piece op ++ codes " ")

abbrev pub boolean_text : Bool → List ℕ
boolean_text b = if b then codes "true" else codes "false"

-- an expression where one of that level is wanted
abbrev pub expression_text : Spelling → Level → Term → List ℕ
expression_text names l (int z) = signed_decimal z
expression_text names l (boolean b) = boolean_text b
expression_text names l (text n) = quoted (names.text n)
expression_text names l (var n) = names.word n
expression_text names l (not t) = codes "not " ++ expression_text names factor t
expression_text names l (two op t u) =
    enclosed (needs_parens l op) (expression_text names (left_of op) t ++ (spaced_op op ++ expression_text names (right_of op) u))
