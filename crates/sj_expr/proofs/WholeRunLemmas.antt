-- A whole expression is what is due, from its first token on.
use Rattle.std.proofs.Common.{◌≡◌, ℕ, ◌+◌, ◌≤◌, Bool, true, false, List, [], ◌∷◌, ◌++◌, Option, Some, None, refl, ap, sym, subst, ◌∙◌, append_assoc, arith, ◌⊎◌, inl, inr}
use Rattle.std.specs.Prelude.{codes, if◌then◌else◌}
use Rattle.sj_lang.specs.Term.{Term}
use Rattle.sj_grammar.specs.Literals.{quoted}
use Rattle.sj_lang.specs.Limits.{Limits}
use Rattle.sj_grammar.specs.Tables.{Spelling}
use Rattle.sj_grammar.specs.Positions.{Pieces}
use Rattle.sj_grammar.specs.Layers.{Step, goes, stops, misfit, instead, step, run, onward, rule_of}
use Rattle.sj_grammar.specs.Expressions.{Level, Spelt, operand_count, IsExpression}
use Rattle.sj_grammar.specs.Expressions as level
use Rattle.sj_grammar.specs.ExpressionDues.{ExpressionDue, whole, times, plus, compare, expression_at, is_operand, factor_follow, factor_passes, then_also, expression_layer}
use Rattle.sj_grammar.proofs.StepLemmas.{Runs-to, run_split, onward_goes}
use Rattle.sj_expr.proofs.RunLemmas.{IsWithin, Goes, runs}

longer : {a : Pieces} (b : Pieces) → (s : List ℕ) × (ps : Pieces) × (a ≡ s ∷ ps) → (s : List ℕ) × (ps : Pieces) × (a ++ b ≡ s ∷ ps)
longer b x = (x.0, x.1 ++ b, ap (λ y. y ++ b) x.2)

-- an expression has a first token
pub first_piece : {M : Limits} {names : Spelling} {l : Level} {o : ℕ} {t : Term} {a : Pieces} → Spelt M names l o t a → (s : List ℕ) × (ps : Pieces) × (a ≡ s ∷ ps)
first_piece (level.of_number {ds = s} t h) = (s, [], refl)
first_piece (level.of_minus {ds = s} t) = (codes "-", s ∷ [], refl)
first_piece level.of_true = (codes "true", [], refl)
first_piece level.of_false = (codes "false", [], refl)
first_piece {names} (level.of_text {n = k} is) = (quoted (names.text k), [], refl)
first_piece {names} (level.of_name {n = k} is) = (names.word k, [], refl)
first_piece (level.of_not {a} h r) = (codes "not", a, refl)
first_piece (level.of_parens {a} h r) = (codes "(", a ++ codes ")" ∷ [], refl)
first_piece (level.of_factor r) = first_piece r
first_piece (level.of_product {b} r q) = longer (codes "*" ∷ b) (first_piece r)
first_piece (level.of_term r) = first_piece r
first_piece (level.of_addition {b} r q) = longer (codes "+" ∷ b) (first_piece r)
first_piece (level.of_difference {b} r q) = longer (codes "-" ∷ b) (first_piece r)
first_piece (level.of_sum r) = first_piece r
first_piece (level.of_less {b} r q) = longer (codes "<" ∷ b) (first_piece r)
first_piece (level.of_less_eq {b} r q) = longer (codes "<=" ∷ b) (first_piece r)
first_piece (level.of_equal {b} r q) = longer (codes "==" ∷ b) (first_piece r)

module _ (L : Limits) where
  -- from its first token on, an expression is what a factor and what may follow it are
  pub whole_step : (n : ℕ) (ds : List ExpressionDue) (s : List ℕ) → step expression_layer L n (whole ∷ ds) s ≡ step expression_layer L 0 (expression_at 0 ++ ds) s
  whole_step n ds s = by_follow (factor_follow 0 s) (factor_passes L 0 0 s) (if is_operand s then 1 else 0) (stops (misfit s))
    where
      by_follow : (x : Option (List ExpressionDue)) (over : Bool) (m : ℕ) (other : Step ExpressionDue)
          → instead (then_also x (times 0 ∷ plus 0 ∷ compare 0 ∷ [])) over m ds other ≡ instead x over m (times 0 ∷ plus 0 ∷ compare 0 ∷ ds) other
      by_follow None over m other = refl
      by_follow (Some es) true m other = refl
      by_follow (Some es) false m other = ap (goes m) (append_assoc es (times 0 ∷ plus 0 ∷ compare 0 ∷ []) ds)

  pub whole_run : (n m : ℕ) (ds es : List ExpressionDue) (s : List ℕ) (ps : Pieces) → Goes L 0 (expression_at 0 ++ ds) (s ∷ ps) m es → Goes L n (whole ∷ ds) (s ∷ ps) m es
  whole_run n m ds es s ps r = record { steps = ap (λ (t : Step ExpressionDue). onward t (λ j gs. run expression_layer L j gs ps)) (whole_step n ds s) ∙ r.steps }

  -- what is due after a whole expression
  pub expression_runs : (M : Limits) (names : Spelling) (t : Term) (a : Pieces) (n : ℕ) (ds : List ExpressionDue) → IsWithin M L → Spelt M names level.whole 0 t a → operand_count t ≤ L.operands
      → Goes L n (whole ∷ ds) a (operand_count t) (times 0 ∷ plus 0 ∷ compare 0 ∷ ds) ⊎ Goes L n (whole ∷ ds) a (operand_count t) (times 0 ∷ plus 0 ∷ ds)
  expression_runs M names t a n ds within r few =
      let x = first_piece r in
      let from : (es : List ExpressionDue) → Goes L 0 (expression_at 0 ++ ds) a (0 + operand_count t) es → Goes L n (whole ∷ ds) a (operand_count t) es = λ es g.
      let counted : Goes L 0 (expression_at 0 ++ ds) a (operand_count t) es = Runs-to expression_layer L 0 _ (operand_count t) _ es a (omega arith) g in
      let split : Goes L 0 (expression_at 0 ++ ds) (x.0 ∷ x.1) (operand_count t) es = subst (λ (ps : Pieces). Goes L 0 (expression_at 0 ++ ds) ps (operand_count t) es) x.2 counted in
      subst (λ (ps : Pieces). Goes L n (whole ∷ ds) ps (operand_count t) es) (sym x.2) (whole_run n (operand_count t) ds es x.0 x.1 split) in
      elim (runs L M names within r 0 ds (omega arith)) [ inl g ↦ inl (from _ g) | inr g ↦ inr (from _ g) ]

pub is_due : (L : Limits) (names : Spelling) (t : Term) (a : Pieces) (n : ℕ) (ds : List ExpressionDue) → IsExpression L names t a
    → (run expression_layer L n (whole ∷ ds) a ≡ goes (operand_count t) (times 0 ∷ plus 0 ∷ compare 0 ∷ ds)) ⊎ (run expression_layer L n (whole ∷ ds) a ≡ goes (operand_count t) (times 0 ∷ plus 0 ∷ ds))
is_due L names t a n ds is =
    elim (expression_runs L L names t a n ds (record { nesting = omega arith; name = omega arith; text = omega arith }) is.spelt is.few) [ inl r ↦ inl r.steps | inr r ↦ inr r.steps ]

-- no token of an expression breaks a rule
pub no_fault : (L : Limits) (names : Spelling) (t : Term) (front back : Pieces) (s : List ℕ) (n m : ℕ) (ds due : List ExpressionDue) → IsExpression L names t (front ++ s ∷ back)
    → run expression_layer L n (whole ∷ ds) front ≡ goes m due → rule_of (step expression_layer L m due s) ≡ None
no_fault L names t front back s n m ds due is e = elim (is_due L names t (front ++ s ∷ back) n ds is) [ inl r ↦ at (operand_count t) _ r | inr r ↦ at (operand_count t) _ r ]
  where
    at : (k : ℕ) (es : List ExpressionDue) → run expression_layer L n (whole ∷ ds) (front ++ s ∷ back) ≡ goes k es → rule_of (step expression_layer L m due s) ≡ None
    at k es r =
        let x = run_split expression_layer L front (s ∷ back) n k (whole ∷ ds) es r in
        let both = sym x.2 ∙ e in
        let counted : x.0 ≡ m = cc in
        let same : x.1 ≡ due = cc in
        let y = onward_goes expression_layer L (step expression_layer L x.0 x.1 s) (λ j gs. run expression_layer L j gs back) k es x.3 in
        sym (λ i. rule_of (step expression_layer L (counted i) (same i) s)) ∙ ap rule_of y.2
