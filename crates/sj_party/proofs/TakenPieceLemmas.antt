-- Pieces one after another, as what is due in a file.
use Rattle.std.proofs.Common.{◌≡◌, ℕ, List, [], ◌∷◌, ◌++◌, refl, ap, ◌∙◌, inl, inr}
use Rattle.std.specs.Prelude.{map}
use Rattle.sj_lang.specs.Term.{Term}
use Rattle.sj_lang.specs.Limits.{Limits}
use Rattle.sj_grammar.specs.Tables.{Spelling}
use Rattle.sj_grammar.specs.Positions.{Pieces, Piece, spellings, all_plain}
use Rattle.sj_grammar.specs.Layers.{Step, goes, onward, step, run}
use Rattle.sj_grammar.specs.Expressions.{IsExpression, operand_count}
use Rattle.sj_grammar.specs.ExpressionDues.{ExpressionDue, whole, times, plus, compare, expression_layer}
use Rattle.sj_grammar.specs.FileDues.{Due, expr, file_layer}
use Rattle.sj_grammar.proofs.StepLemmas.{Runs-append}
use Rattle.sj_grammar.proofs.FramingLemmas.{run_framed}
use Rattle.sj_proto.proofs.LineLemmas.{spellings-append, spellings-plain}
use Rattle.sj_expr.proofs.WholeRunLemmas.{is_due}
use Rattle.sj_expr.proofs.FileLemmas.{expressions_embedded}
use Rattle.sj_party.specs.Leads.{LeadsTo}

module _ (L : Limits) where
  pub leads_none : (n : ℕ) (ds : List Due) → LeadsTo L n ds [] ds
  leads_none n ds = record { count = n; steps = refl }

  pub leads_one : (n k : ℕ) (ds es fs : List Due) (p : Piece) (a : List Piece) → step file_layer L n ds p.spelled ≡ goes k es → LeadsTo L k es a fs → LeadsTo L n ds (p ∷ a) fs
  leads_one n k ds es fs p a e r = record { count = r.count; steps = ap (λ (t : Step Due). onward t (λ j gs. run file_layer L j gs (spellings a))) e ∙ r.steps }

  pub leads_on : (n : ℕ) (ds es fs : List Due) (a b : List Piece) → LeadsTo L n ds a es → ((k : ℕ) → LeadsTo L k es b fs) → LeadsTo L n ds (a ++ b) fs
  leads_on n ds es fs a b r q =
      let rest = q r.count in
      record {
        count = rest.count;
        steps = ap (run file_layer L n ds) (spellings-append a b) ∙ (Runs-append file_layer L (spellings a) (spellings b) n r.count rest.count ds es fs (record { steps = r.steps }) (record { steps = rest.steps })).steps;
      }

  -- a piece that all that may go on an expression leaves to what is due later
  abbrev pub Leaves : List Due → List ℕ → Type 0
  Leaves ds c = (k : ℕ) → (step file_layer L k (expr (times 0) ∷ expr (plus 0) ∷ expr (compare 0) ∷ ds) c ≡ step file_layer L k ds c) × (step file_layer L k (expr (times 0) ∷ expr (plus 0) ∷ ds) c ≡ step file_layer L k ds c)

  -- an expression, and a piece that ends it
  pub leads_expression : (names : Spelling) (t : Term) (e : Pieces) (n : ℕ) (ds es : List Due) (p : Piece) (a : List Piece) → IsExpression L names t e → Leaves ds p.spelled → ((k : ℕ) → LeadsTo L k ds (p ∷ a) es)
      → LeadsTo L n (expr whole ∷ ds) (all_plain e ++ p ∷ a) es
  leads_expression names t e n ds es p a is ends r =
      elim (is_due L names t e n [] is) [ inl h ↦ behind (times 0 ∷ plus 0 ∷ compare 0 ∷ []) h (λ k. (ends k).0) | inr h ↦ behind (times 0 ∷ plus 0 ∷ []) h (λ k. (ends k).1) ]
    where
      behind : (left : List ExpressionDue) → run expression_layer L n (whole ∷ []) e ≡ goes (operand_count t) left → ((k : ℕ) → step file_layer L k (map expr left ++ ds) p.spelled ≡ step file_layer L k ds p.spelled)
          → LeadsTo L n (expr whole ∷ ds) (all_plain e ++ p ∷ a) es
      behind left h skips =
          let m = operand_count t in
          leads_on n (expr whole ∷ ds) (map expr left ++ ds) es (all_plain e) (p ∷ a)
          (record { count = m; steps = ap (run file_layer L n (expr whole ∷ ds)) (spellings-plain e) ∙ run_framed expression_layer file_layer expr expressions_embedded L ds e n m (whole ∷ []) left h })
          (λ k. let q = r k in record { count = q.count; steps = ap (λ (u : Step Due). onward u (λ j gs. run file_layer L j gs (spellings a))) (skips k) ∙ q.steps })
