-- Up to where something is due an expression can go on, and with no token that isn't due.
use Rattle.std.proofs.Common.{◌≡◌, ℕ, true, false, List, [], ◌∷◌, ◌++◌, Some, None, refl, ap, sym, subst, ◌∙◌, arith, append_assoc, append-nil, inl, inr}
use Rattle.sj_grammar.specs.declared.tokens.Rule.{Rule}
use Rattle.sj_lang.specs.Limits.{Limits}
use Rattle.sj_grammar.specs.Tables.{Spelling}
use Rattle.sj_grammar.specs.Positions.{Pieces}
use Rattle.sj_grammar.specs.Layers.{goes, step, run, may_end, rule_of}
use Rattle.sj_grammar.specs.Expressions.{operand_count}
use Rattle.sj_grammar.specs.ExpressionDues.{ExpressionDue, whole, expression_layer}
use Rattle.sj_grammar.specs.Viable.{IsViable}
use Rattle.sj_grammar.proofs.StepLemmas.{due_behind, onward_goes, step_due, step_refused, step_over, one_due, run_split}
use Rattle.sj_grammar.proofs.SpellingLemmas.{IsHeld, AllHeld, spelling_of, held_at, all_held}
use Rattle.sj_grammar.proofs.CompletionLemmas.{due_back, run_back, ends_back, some_alls}
use Rattle.sj_expr.specs.Viable.{IsSomeExpression, IsBrokenAt}
use Rattle.sj_expr.proofs.RunLemmas.{IsWithin}
use Rattle.sj_expr.proofs.WideLimitLemmas.{w_as}
use Rattle.sj_expr.proofs.CompletionLemmas.{Spelled, AllSpelled, done}
use Rattle.sj_expr.proofs.FollowLemmas.{unfollow, none_spelled, some_spelled}
use Rattle.sj_expr.proofs.WholeRunLemmas.{expression_runs}

module _ (names : Spelling) where
  wide : ℕ → Limits
  wide k = record { protocols = 0; parties = 0; connects = 0; items = 0; nesting = k; labels = 0; operands = 0; name = k; text = k }

  -- the pieces, and what then is due
  completed : (L : Limits) (ps ts : Pieces) (n m : ℕ) (due : List ExpressionDue) → AllHeld (IsHeld names) ps → run expression_layer L n (whole ∷ []) ps ≡ goes m due → AllSpelled names due ts → IsSomeExpression (ps ++ ts)
  unfolding wide
  completed L ps ts n m due held e h =
      let all = run_back expression_layer (Spelled names) (IsHeld names) (unfollow names) (none_spelled names) L ps n m (whole ∷ []) due ts held e h in
      let w = w_as names (done names all.4 all.3) all.2.1 in
      record { within = wide w.0; names = names; term = all.2.0; spelt = w.1 (wide w.0) (record { nesting = omega arith; name = omega arith; text = omega arith }) }

pub viable : (L : Limits) (ps : Pieces) (n m : ℕ) (due : List ExpressionDue) → run expression_layer L n (whole ∷ []) ps ≡ goes m due → IsViable IsSomeExpression ps
viable L ps n m due e =
    let names = spelling_of (ps ++ []) in
    let rest = some_alls expression_layer (Spelled names) (some_spelled names) due in
    record { later = rest.0; all = completed names L ps rest.0 n m due (all_held [] ps []) e rest.1 }

pub viable_next : (L : Limits) (ps : Pieces) (n m : ℕ) (due es : List ExpressionDue) (s : List ℕ) → run expression_layer L n (whole ∷ []) ps ≡ goes m due → due_behind expression_layer due s ≡ Some es → IsViable IsSomeExpression (ps ++ s ∷ [])
viable_next L ps n m due es s e f =
    let names = spelling_of (ps ++ s ∷ []) in
    let rest = some_alls expression_layer (Spelled names) (some_spelled names) es in
    let next = due_back expression_layer (Spelled names) (IsHeld names) (unfollow names) (none_spelled names) due es s rest.0 (held_at ps [] s) f rest.1 in
    record { later = rest.0; all = subst IsSomeExpression (sym (append_assoc ps (s ∷ []) rest.0)) (completed names L ps (s ∷ rest.0) n m due (all_held [] ps (s ∷ [])) e next) }

pub is_whole : (L : Limits) (ps : Pieces) (n m : ℕ) (due : List ExpressionDue) → run expression_layer L n (whole ∷ []) ps ≡ goes m due → may_end expression_layer due ≡ true → IsSomeExpression ps
is_whole L ps n m due e ends =
    let names = spelling_of (ps ++ []) in
    subst IsSomeExpression (append-nil ps) (completed names L ps [] n m due (all_held [] ps []) e (ends_back expression_layer (Spelled names) (none_spelled names) due ends))

-- an expression runs, within limits that it doesn't pass
whole_runs : (ps : Pieces) → IsSomeExpression ps → (M : Limits) × (k : ℕ) × (left : List ExpressionDue) × (run expression_layer M 0 (whole ∷ []) ps ≡ goes k left) × (may_end expression_layer left ≡ true)
whole_runs ps w =
    let M = record w.within { operands = operand_count w.term } in
    let room : IsWithin w.within M = record { nesting = omega arith; name = omega arith; text = omega arith } in
    elim (expression_runs M w.within w.names w.term ps 0 [] room w.spelt (omega arith)) [
      | inl r ↦ (M, operand_count w.term, _, r.steps, refl)
      | inr r ↦ (M, operand_count w.term, _, r.steps, refl)
    ]

-- with a token that isn't due no expression goes on
pub not_viable : (L : Limits) (ps : Pieces) (n m : ℕ) (due : List ExpressionDue) (s : List ℕ) → run expression_layer L n (whole ∷ []) ps ≡ goes m due → due_behind expression_layer due s ≡ None → IsViable IsSomeExpression (ps ++ s ∷ []) → ⊥
not_viable L ps n m due s e stop v =
    let w = whole_runs ((ps ++ s ∷ []) ++ v.later) v.all in
    let split : ps ++ (s ∷ v.later) ≡ (ps ++ s ∷ []) ++ v.later = sym (append_assoc ps (s ∷ []) v.later) in
    let r = run_split expression_layer w.0 ps (s ∷ v.later) 0 w.1 (whole ∷ []) w.2 (ap (run expression_layer w.0 0 (whole ∷ [])) split ∙ w.3) in
    let same : r.1 ≡ due = one_due expression_layer w.0 L ps 0 n r.0 m (whole ∷ []) r.1 due r.2 e in
    let x = onward_goes expression_layer w.0 (step expression_layer w.0 r.0 r.1 s) (λ j gs. run expression_layer w.0 j gs v.later) w.1 w.2 r.3 in
    let goes_on = step_due expression_layer w.0 r.0 x.0 r.1 x.1 s x.2 in
    let stopped : due_behind expression_layer r.1 s ≡ None = ap (λ (ds : List ExpressionDue). due_behind expression_layer ds s) same ∙ stop in
    cc

-- and where something is due the text is no whole expression
pub not_whole : (L : Limits) (ps : Pieces) (n m : ℕ) (due : List ExpressionDue) → run expression_layer L n (whole ∷ []) ps ≡ goes m due → may_end expression_layer due ≡ false → IsSomeExpression ps → ⊥
not_whole L ps n m due e stop v =
    let w = whole_runs ps v in
    let same : w.2 ≡ due = one_due expression_layer w.0 L ps 0 n w.1 m (whole ∷ []) w.2 due w.3 e in
    let ends : may_end expression_layer due ≡ true = ap (may_end expression_layer) (sym same) ∙ w.4 in
    cc

pub goes_wrong : (L : Limits) (ps : Pieces) (n m : ℕ) (due : List ExpressionDue) (s : List ℕ) (rule : Rule) → run expression_layer L n (whole ∷ []) ps ≡ goes m due → rule_of (step expression_layer L m due s) ≡ Some rule → IsBrokenAt ps s rule
goes_wrong L ps n m due s rule e breaks = record {
  viable = viable L ps n m due e;
  wrong = λ other. not_viable L ps n m due s e (step_refused expression_layer L m due s rule breaks other);
  over = λ limit.
      let es = step_over expression_layer L m due s (breaks ∙ ap Some limit) in
      viable_next L ps n m due es.0 s e es.1;
}
