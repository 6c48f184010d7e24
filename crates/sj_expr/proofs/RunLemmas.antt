-- The pieces of an expression are what is due, as long as no limit is passed.
use Rattle.std.proofs.Common.{◌≡◌, ℕ, suc, ◌+◌, ◌<◌, ◌≤◌, true, false, List, [], ◌∷◌, ◌++◌, refl, arith, ◌⊎◌, inl, inr}
use Rattle.std.specs.Prelude.{codes}
use Rattle.std.proofs.lemmas.Bool.{lt-leb}
use Rattle.sj_lang.specs.Term.{Term}
use Rattle.sj_grammar.specs.Names.{is_reserved}
use Rattle.sj_grammar.specs.Literals.{is_number, quoted}
use Rattle.sj_lang.specs.Limits.{Limits}
use Rattle.sj_grammar.specs.Tables.{Spelling}
use Rattle.sj_grammar.specs.Positions.{Pieces}
use Rattle.sj_grammar.specs.Layers.{Step, goes, step}
use Rattle.sj_grammar.specs.Expressions.{Level, Spelt, operand_count}
use Rattle.sj_grammar.specs.Expressions as level
use Rattle.sj_grammar.specs.ExpressionDues.{ExpressionDue, factor, times, plus, compare, after_minus, fixed, expression_at, is_operand, is_long, expression_layer}
use Rattle.sj_grammar.proofs.StepLemmas.{Runs, Runs-none, Runs-cons, Runs-append, Runs-to}
use Rattle.sj_expr.proofs.TokenLemmas.{no_largest, quoted_text}
use Rattle.sj_expr.proofs.OperandLemmas.{number_operand, number_short, true_operand, true_short, false_operand, false_short, text_operand, text_short, name_operand, name_short}

-- limits that leave as much room for what is inside expressions
pub record IsWithin (M L : Limits) : Type 0 where
  pub nesting : M.nesting ≤ L.nesting
  pub name : M.name ≤ L.name
  pub text : M.text ≤ L.text

module _ (L : Limits) where
  -- so many operands are counted and that is due; after the pieces so many, and that is due
  abbrev pub Goes : ℕ → List ExpressionDue → Pieces → ℕ → List ExpressionDue → Type 0
  Goes n ds ps m es = Runs expression_layer L n ds ps m es

  abbrev At : ℕ → List ExpressionDue → List ℕ → Step ExpressionDue
  At n ds s = step expression_layer L n ds s

  pub operand_step : (s : List ℕ) (n o : ℕ) (ds : List ExpressionDue) → is_operand s ≡ true → is_long L s ≡ false → n < L.operands → At n (factor o ∷ ds) s ≡ goes (suc n) ds
  operand_step s n o ds t f h = rw (t, f, lt-leb L.operands n h) refl

  pub minus_step : (n o : ℕ) (ds : List ExpressionDue) → At n (factor o ∷ ds) (codes "-") ≡ goes n (after_minus ∷ ds)
  minus_step n o ds = refl

  pub number_step : (s : List ℕ) (n : ℕ) (ds : List ExpressionDue) → is_number s ≡ true → n < L.operands → At n (after_minus ∷ ds) s ≡ goes (suc n) ds
  number_step s n ds t h = rw (t, lt-leb L.operands n h) refl

  pub not_step : (n o : ℕ) (ds : List ExpressionDue) → o < L.nesting → At n (factor o ∷ ds) (codes "not") ≡ goes n (factor (suc o) ∷ ds)
  unfolding is_reserved
  not_step n o ds h = rw (lt-leb L.nesting o h) refl

  pub open_step : (n o : ℕ) (ds : List ExpressionDue) → o < L.nesting → At n (factor o ∷ ds) (codes "(") ≡ goes n (expression_at (suc o) ++ fixed (codes ")") ∷ ds)
  open_step n o ds h = rw (lt-leb L.nesting o h) refl

  -- an operand alone
  one_run : (s : List ℕ) (n o : ℕ) (ds : List ExpressionDue) → is_operand s ≡ true → is_long L s ≡ false → n + 1 ≤ L.operands → Goes n (factor o ∷ ds) (s ∷ []) (n + 1) ds
  one_run s n o ds t f h = let room : n < L.operands = omega arith in
      Runs-cons expression_layer L n (suc n) (n + 1) _ ds ds s [] (operand_step s n o ds t f room) (Runs-to expression_layer L (suc n) (suc n) (n + 1) ds ds [] (omega arith) (Runs-none expression_layer L (suc n) ds))

  -- an operator between
  pub two_run : (c : List ℕ) (a b : Pieces) (n m k : ℕ) (ds es fs gs : List ExpressionDue) → Goes n ds a m es → At m es c ≡ goes m fs → Goes m fs b k gs → Goes n ds (a ++ c ∷ b) k gs
  two_run c a b n m k ds es fs gs r e q = Runs-append expression_layer L a (c ∷ b) n m k ds es gs r (Runs-cons expression_layer L m m k es fs gs c b e q)

  added : (c : List ℕ) (o : ℕ) (a b : Pieces) (n i j : ℕ) (ds : List ExpressionDue) → At (n + i) (times o ∷ plus o ∷ ds) c ≡ goes (n + i) (factor o ∷ times o ∷ plus o ∷ ds)
      → Goes n (factor o ∷ times o ∷ plus o ∷ ds) a (n + i) (times o ∷ plus o ∷ ds) → Goes (n + i) (factor o ∷ times o ∷ plus o ∷ ds) b (n + i + j) (times o ∷ plus o ∷ ds)
      → Goes n (factor o ∷ times o ∷ plus o ∷ ds) (a ++ c ∷ b) (n + (i + j)) (times o ∷ plus o ∷ ds)
  added c o a b n i j ds e r q =
      two_run c a b n (n + i) (n + (i + j)) _ (times o ∷ plus o ∷ ds) (factor o ∷ times o ∷ plus o ∷ ds) (times o ∷ plus o ∷ ds) r e (Runs-to expression_layer L _ _ _ _ _ b (omega arith) q)

  pub compared_run : (c : List ℕ) (o : ℕ) (a b : Pieces) (n i j : ℕ) (ds : List ExpressionDue) → At (n + i) (times o ∷ plus o ∷ compare o ∷ ds) c ≡ goes (n + i) (factor o ∷ times o ∷ plus o ∷ ds)
      → Goes n (expression_at o ++ ds) a (n + i) (times o ∷ plus o ∷ compare o ∷ ds) → Goes (n + i) (factor o ∷ times o ∷ plus o ∷ ds) b (n + i + j) (times o ∷ plus o ∷ ds)
      → Goes n (expression_at o ++ ds) (a ++ c ∷ b) (n + (i + j)) (times o ∷ plus o ∷ ds)
  compared_run c o a b n i j ds e r q =
      two_run c a b n (n + i) (n + (i + j)) _ (times o ∷ plus o ∷ compare o ∷ ds) (factor o ∷ times o ∷ plus o ∷ ds) (times o ∷ plus o ∷ ds) r e (Runs-to expression_layer L _ _ _ _ _ b (omega arith) q)

  -- what is due after an expression of that level; after a comparison there is no other one
  abbrev pub Leaves : Level → ℕ → Pieces → ℕ → ℕ → List ExpressionDue → Type 0
  Leaves level.factor o a n m ds = Goes n (factor o ∷ ds) a m ds
  Leaves level.term o a n m ds = Goes n (factor o ∷ times o ∷ ds) a m (times o ∷ ds)
  Leaves level.sum o a n m ds = Goes n (factor o ∷ times o ∷ plus o ∷ ds) a m (times o ∷ plus o ∷ ds)
  Leaves level.whole o a n m ds = Goes n (expression_at o ++ ds) a m (times o ∷ plus o ∷ compare o ∷ ds) ⊎ Goes n (expression_at o ++ ds) a m (times o ∷ plus o ∷ ds)

  module _ (M : Limits) (names : Spelling) (within : IsWithin M L) where
    pub runs : {l : Level} {o : ℕ} {t : Term} {a : Pieces} → Spelt M names l o t a → (n : ℕ) (ds : List ExpressionDue) → n + operand_count t ≤ L.operands → Leaves l o a n (n + operand_count t) ds
    runs (level.of_number {o} {ds = s} t h) n ds few = one_run s n o ds (number_operand s t (no_largest s h)) (number_short L s t) few
    runs (level.of_minus {o} {ds = s} t) n ds few = let room : n < L.operands = omega arith in
        Runs-cons expression_layer L n n (n + 1) _ (after_minus ∷ ds) ds (codes "-") (s ∷ []) (minus_step n o ds)
        (Runs-cons expression_layer L n (suc n) (n + 1) _ ds ds s [] (number_step s n ds t room) (Runs-to expression_layer L (suc n) (suc n) (n + 1) ds ds [] (omega arith) (Runs-none expression_layer L (suc n) ds)))
    runs (level.of_true {o}) n ds few = one_run (codes "true") n o ds true_operand (true_short L) few
    runs (level.of_false {o}) n ds few = one_run (codes "false") n o ds false_operand (false_short L) few
    runs (level.of_text {o} {n = k} is) n ds few =
        one_run (quoted (names.text k)) n o ds (text_operand (quoted (names.text k)) (quoted_text (names.text k) is.printable)) (text_short L (names.text k) (let h = is.short in let g = within.text in omega arith)) few
    runs (level.of_name {o} {n = k} is) n ds few =
        one_run (names.word k) n o ds (name_operand (names.word k) is.name) (name_short L (names.word k) is.name (let h = is.short in let g = within.name in omega arith)) few
    runs (level.of_not {o} {t} {a} h r) n ds few = let deep : o < L.nesting = let g = within.nesting in omega arith in
        Runs-cons expression_layer L n n (n + operand_count t) _ (factor (suc o) ∷ ds) ds (codes "not") a (not_step n o ds deep) (runs r n ds few)
    runs (level.of_parens {o} {t} {a} h r) n ds few = let deep : o < L.nesting = let g = within.nesting in omega arith in
        let m = n + operand_count t in
        Runs-cons expression_layer L n n m _ (expression_at (suc o) ++ fixed (codes ")") ∷ ds) ds (codes "(") (a ++ codes ")" ∷ []) (open_step n o ds deep)
        (elim (runs r n (fixed (codes ")") ∷ ds) few) [
          | inl q ↦ two_run (codes ")") a [] n m m _ _ ds ds q refl (Runs-none expression_layer L m ds)
          | inr q ↦ two_run (codes ")") a [] n m m _ _ ds ds q refl (Runs-none expression_layer L m ds)
        ])
    runs (level.of_factor {o} r) n ds few = runs r n (times o ∷ ds) few
    runs (level.of_product {o} {t} {u} {a} {b} r q) n ds few =
        two_run (codes "*") a b n (n + operand_count t) (n + (operand_count t + operand_count u)) _ (times o ∷ ds) (factor o ∷ times o ∷ ds) (times o ∷ ds)
        (runs r n ds (omega arith)) refl
        (Runs-to expression_layer L _ _ _ _ _ b (omega arith) (runs q (n + operand_count t) (times o ∷ ds) (omega arith)))
    runs (level.of_term {o} r) n ds few = runs r n (plus o ∷ ds) few
    runs (level.of_addition {o} {t} {u} {a} {b} r q) n ds few = added (codes "+") o a b n (operand_count t) (operand_count u) ds refl (runs r n ds (omega arith)) (runs q (n + operand_count t) (plus o ∷ ds) (omega arith))
    runs (level.of_difference {o} {t} {u} {a} {b} r q) n ds few = added (codes "-") o a b n (operand_count t) (operand_count u) ds refl (runs r n ds (omega arith)) (runs q (n + operand_count t) (plus o ∷ ds) (omega arith))
    runs (level.of_sum {o} r) n ds few = inl (runs r n (compare o ∷ ds) few)
    runs (level.of_less {o} {t} {u} {a} {b} r q) n ds few = inr (compared_run (codes "<") o a b n (operand_count t) (operand_count u) ds refl (runs r n (compare o ∷ ds) (omega arith)) (runs q (n + operand_count t) ds (omega arith)))
    runs (level.of_less_eq {o} {t} {u} {a} {b} r q) n ds few = inr (compared_run (codes "<=") o a b n (operand_count t) (operand_count u) ds refl (runs r n (compare o ∷ ds) (omega arith)) (runs q (n + operand_count t) ds (omega arith)))
    runs (level.of_equal {o} {t} {u} {a} {b} r q) n ds few = inr (compared_run (codes "==") o a b n (operand_count t) (operand_count u) ds refl (runs r n (compare o ∷ ds) (omega arith)) (runs q (n + operand_count t) ds (omega arith)))
