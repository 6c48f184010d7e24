-- Expressions within all limits that are wide enough.
use Rattle.std.proofs.Common.{◌≡◌, ℕ, suc, ◌+◌, ◌<◌, ◌≤◌, true, false, List, [], ◌∷◌, ◌++◌, length, subst, arith}
use Rattle.std.specs.Prelude.{codes, pos, neg_ℤ}
use Rattle.std.specs.List.{list_all}
use Rattle.std.specs.Str.Parse.{digits_value}
use Rattle.sj_lang.specs.declared.party.Op.TheVariants.{Add, Sub, Mul, Less, LessEq, Equal}
use Rattle.sj_lang.specs.Term.{Term, int, boolean, text, var}
use Rattle.sj_lang.specs.Term as term
use Rattle.sj_grammar.specs.Bytes.{is_printable}
use Rattle.sj_lang.specs.Limits.{Limits}
use Rattle.sj_grammar.specs.Lexis.{most}
use Rattle.sj_grammar.specs.Literals.{is_number, quoted}
use Rattle.sj_grammar.specs.Names.{is_name}
use Rattle.sj_grammar.specs.Tables.{Spelling, IsFirst}
use Rattle.sj_grammar.specs.Positions.{Pieces}
use Rattle.sj_grammar.specs.Expressions.{Level, Spelt}
use Rattle.sj_grammar.specs.Expressions as level

pub record IsWide (k : ℕ) (M : Limits) : Type 0 where
  pub nesting : k ≤ M.nesting
  pub name : k ≤ M.name
  pub text : k ≤ M.text

module _ (names : Spelling) where
  -- within limits that wide, and all wider ones, the pieces are the expression
  abbrev pub Writes : Level → ℕ → Term → Pieces → Type 0
  Writes l o t a = (k : ℕ) × ((M : Limits) → IsWide k M → Spelt M names l o t a)

  -- within the sum of both
  left_wide : (k j : ℕ) (M : Limits) → IsWide (k + j) M → IsWide k M
  left_wide k j M w = let a = w.nesting in let b = w.name in let c = w.text in record { nesting = omega arith; name = omega arith; text = omega arith }

  right_wide : (k j : ℕ) (M : Limits) → IsWide (k + j) M → IsWide j M
  right_wide k j M w = let a = w.nesting in let b = w.name in let c = w.text in record { nesting = omega arith; name = omega arith; text = omega arith }

  pub w_as : {l : Level} {o : ℕ} {t : Term} {a b : Pieces} → a ≡ b → Writes l o t a → Writes l o t b
  w_as {l} {o} {t} e f = subst (λ (ps : Pieces). Writes l o t ps) e f

  pub w_number : (o : ℕ) (s : List ℕ) → is_number s ≡ true → digits_value 10 s < most → Writes level.factor o (int (pos (digits_value 10 s))) (s ∷ [])
  w_number o s t h = (0, λ M w. level.of_number t h)

  pub w_minus : (o : ℕ) (s : List ℕ) → is_number s ≡ true → Writes level.factor o (int (neg_ℤ (pos (digits_value 10 s)))) (codes "-" ∷ s ∷ [])
  w_minus o s t = (0, λ M w. level.of_minus t)

  pub w_true : (o : ℕ) → Writes level.factor o (boolean true) (codes "true" ∷ [])
  w_true o = (0, λ M w. level.of_true)

  pub w_false : (o : ℕ) → Writes level.factor o (boolean false) (codes "false" ∷ [])
  w_false o = (0, λ M w. level.of_false)

  pub w_text : (o n : ℕ) → list_all is_printable (names.text n) ≡ true → IsFirst names.text n → Writes level.factor o (text n) (quoted (names.text n) ∷ [])
  w_text o n p f = (length (names.text n), λ M w. level.of_text (record { printable = p; short = w.text; first = f }))

  pub w_name : (o n : ℕ) → is_name (names.word n) ≡ true → IsFirst names.word n → Writes level.factor o (var n) (names.word n ∷ [])
  w_name o n p f = (length (names.word n), λ M w. level.of_name (record { name = p; short = w.name; first = f }))

  pub w_not : {o : ℕ} {t : Term} {a : Pieces} → Writes level.factor (suc o) t a → Writes level.factor o (term.not t) (codes "not" ∷ a)
  w_not {o} f = (suc o + f.0, λ M w. level.of_not (left_wide (suc o) f.0 M w).nesting (f.1 M (right_wide (suc o) f.0 M w)))

  pub w_parens : {o : ℕ} {t : Term} {a : Pieces} → Writes level.whole (suc o) t a → Writes level.factor o t (codes "(" ∷ (a ++ codes ")" ∷ []))
  w_parens {o} f = (suc o + f.0, λ M w. level.of_parens (left_wide (suc o) f.0 M w).nesting (f.1 M (right_wide (suc o) f.0 M w)))

  pub w_factor : {o : ℕ} {t : Term} {a : Pieces} → Writes level.factor o t a → Writes level.term o t a
  w_factor f = (f.0, λ M w. level.of_factor (f.1 M w))

  pub w_term : {o : ℕ} {t : Term} {a : Pieces} → Writes level.term o t a → Writes level.sum o t a
  w_term f = (f.0, λ M w. level.of_term (f.1 M w))

  pub w_sum : {o : ℕ} {t : Term} {a : Pieces} → Writes level.sum o t a → Writes level.whole o t a
  w_sum f = (f.0, λ M w. level.of_sum (f.1 M w))

  pub w_product : {o : ℕ} {t u : Term} {a b : Pieces} → Writes level.term o t a → Writes level.factor o u b → Writes level.term o (term.two Mul t u) (a ++ codes "*" ∷ b)
  w_product f g = (f.0 + g.0, λ M w. level.of_product (f.1 M (left_wide f.0 g.0 M w)) (g.1 M (right_wide f.0 g.0 M w)))

  pub w_addition : {o : ℕ} {t u : Term} {a b : Pieces} → Writes level.sum o t a → Writes level.term o u b → Writes level.sum o (term.two Add t u) (a ++ codes "+" ∷ b)
  w_addition f g = (f.0 + g.0, λ M w. level.of_addition (f.1 M (left_wide f.0 g.0 M w)) (g.1 M (right_wide f.0 g.0 M w)))

  pub w_difference : {o : ℕ} {t u : Term} {a b : Pieces} → Writes level.sum o t a → Writes level.term o u b → Writes level.sum o (term.two Sub t u) (a ++ codes "-" ∷ b)
  w_difference f g = (f.0 + g.0, λ M w. level.of_difference (f.1 M (left_wide f.0 g.0 M w)) (g.1 M (right_wide f.0 g.0 M w)))

  pub w_less : {o : ℕ} {t u : Term} {a b : Pieces} → Writes level.sum o t a → Writes level.sum o u b → Writes level.whole o (term.two Less t u) (a ++ codes "<" ∷ b)
  w_less f g = (f.0 + g.0, λ M w. level.of_less (f.1 M (left_wide f.0 g.0 M w)) (g.1 M (right_wide f.0 g.0 M w)))

  pub w_less_eq : {o : ℕ} {t u : Term} {a b : Pieces} → Writes level.sum o t a → Writes level.sum o u b → Writes level.whole o (term.two LessEq t u) (a ++ codes "<=" ∷ b)
  w_less_eq f g = (f.0 + g.0, λ M w. level.of_less_eq (f.1 M (left_wide f.0 g.0 M w)) (g.1 M (right_wide f.0 g.0 M w)))

  pub w_equal : {o : ℕ} {t u : Term} {a b : Pieces} → Writes level.sum o t a → Writes level.sum o u b → Writes level.whole o (term.two Equal t u) (a ++ codes "==" ∷ b)
  w_equal f g = (f.0 + g.0, λ M w. level.of_equal (f.1 M (left_wide f.0 g.0 M w)) (g.1 M (right_wide f.0 g.0 M w)))
