-- The grammar of expressions.
use Rattle.std.specs.Prelude.{ℕ, suc, ◌+◌, ◌<◌, ◌≤◌, pos, neg_ℤ, true, false, IsTrue, List, [], ◌∷◌, ◌++◌, codes}
use Rattle.std.specs.Str.Parse.{digits_value}
use Rattle.sj_lang.specs.declared.party.Op.TheVariants.{Add, Sub, Mul, Less, LessEq, Equal}
use Rattle.sj_lang.specs.Term.{Term, int, boolean, text, var, not, two}
use Rattle.sj_lang.specs.Limits.{Limits}
use Rattle.sj_grammar.specs.Lexis.{most}
use Rattle.sj_grammar.specs.Literals.{is_number, quoted}
use Rattle.sj_grammar.specs.Tables.{Spelling, IsNamed, IsLiteral}
use Rattle.sj_grammar.specs.Positions.{Pieces}

-- an expression, and what it is made of
pub data Level : Type 0 where
  whole : Level
  sum : Level
  term : Level
  factor : Level

-- the pieces of an expression of that level, inside so many parentheses and `not`s
pub data Spelt (L : Limits) (names : Spelling) : Level → ℕ → Term → Pieces → Type 0 where
  of_number : {o : ℕ} {ds : List ℕ} → IsTrue (is_number ds) → digits_value 10 ds < most → Spelt L names factor o (int (pos (digits_value 10 ds))) (ds ∷ [])
  of_minus : {o : ℕ} {ds : List ℕ} → IsTrue (is_number ds) → Spelt L names factor o (int (neg_ℤ (pos (digits_value 10 ds)))) (codes "-" ∷ ds ∷ [])
  of_true : {o : ℕ} → Spelt L names factor o (boolean true) (codes "true" ∷ [])
  of_false : {o : ℕ} → Spelt L names factor o (boolean false) (codes "false" ∷ [])
  of_text : {o n : ℕ} → IsLiteral L names.text n → Spelt L names factor o (text n) (quoted (names.text n) ∷ [])
  of_name : {o n : ℕ} → IsNamed L names.word n → Spelt L names factor o (var n) (names.word n ∷ [])
  of_not : {o : ℕ} {t : Term} {a : Pieces} → o < L.nesting → Spelt L names factor (suc o) t a → Spelt L names factor o (not t) (codes "not" ∷ a)
  of_parens : {o : ℕ} {t : Term} {a : Pieces} → o < L.nesting → Spelt L names whole (suc o) t a → Spelt L names factor o t (codes "(" ∷ (a ++ codes ")" ∷ []))
  -- terms and sums group to the left
  of_factor : {o : ℕ} {t : Term} {a : Pieces} → Spelt L names factor o t a → Spelt L names term o t a
  of_product : {o : ℕ} {t u : Term} {a b : Pieces} → Spelt L names term o t a → Spelt L names factor o u b → Spelt L names term o (two Mul t u) (a ++ codes "*" ∷ b)
  of_term : {o : ℕ} {t : Term} {a : Pieces} → Spelt L names term o t a → Spelt L names sum o t a
  of_addition : {o : ℕ} {t u : Term} {a b : Pieces} → Spelt L names sum o t a → Spelt L names term o u b → Spelt L names sum o (two Add t u) (a ++ codes "+" ∷ b)
  of_difference : {o : ℕ} {t u : Term} {a b : Pieces} → Spelt L names sum o t a → Spelt L names term o u b → Spelt L names sum o (two Sub t u) (a ++ codes "-" ∷ b)
  -- and a comparison stands once
  of_sum : {o : ℕ} {t : Term} {a : Pieces} → Spelt L names sum o t a → Spelt L names whole o t a
  of_less : {o : ℕ} {t u : Term} {a b : Pieces} → Spelt L names sum o t a → Spelt L names sum o u b → Spelt L names whole o (two Less t u) (a ++ codes "<" ∷ b)
  of_less_eq : {o : ℕ} {t u : Term} {a b : Pieces} → Spelt L names sum o t a → Spelt L names sum o u b → Spelt L names whole o (two LessEq t u) (a ++ codes "<=" ∷ b)
  of_equal : {o : ℕ} {t u : Term} {a b : Pieces} → Spelt L names sum o t a → Spelt L names sum o u b → Spelt L names whole o (two Equal t u) (a ++ codes "==" ∷ b)

-- its numbers, texts, names, `true` and `false`
abbrev pub operand_count : Term → ℕ
operand_count (int z) = 1
operand_count (boolean b) = 1
operand_count (text n) = 1
operand_count (var n) = 1
operand_count (not t) = operand_count t
operand_count (two op t u) = operand_count t + operand_count u

-- the pieces are that expression
pub record IsExpression (L : Limits) (names : Spelling) (t : Term) (ps : Pieces) : Type 0 where
  pub spelt : Spelt L names whole 0 t ps
  pub few : operand_count t ≤ L.operands
