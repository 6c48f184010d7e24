-- A whole expression among the dues of a file.
use Rattle.std.proofs.Common.{◌≡◌, ℕ, ◌+◌, ◌≤◌, Bool, true, false, List, [], ◌∷◌, ◌++◌, Option, Some, None, Result, Ok, Err, IfOk, IfErr, refl, inl, inr, ap, sym, subst, ◌∙◌, arith, append-nil}
use Rattle.std.specs.Prelude.{if◌then◌else◌, map}
use Rattle.sj_lang.specs.declared.party.Expr.{Expr}
use Rattle.sj_lang.specs.Term.{Term}
use Rattle.sj_lang.specs.CodeView.{term_of}
use Rattle.sj_grammar.specs.declared.tokens.Fault.{Fault}
use Rattle.sj_grammar.specs.declared.refusal.ParseRefusal.{ParseRefusal}
use Rattle.sj_grammar.specs.declared.refusal.ParseRefusal.TheVariants as refusals
use Rattle.sj_grammar.specs.declared.tokens.What.{What}
use Rattle.sj_lang.specs.Limits.{limits}
use Rattle.sj_grammar.specs.Lexis.{Ahead, at_end, bad, token, next_of}
use Rattle.sj_grammar.specs.Positions.{Pieces, At, Begins}
use Rattle.sj_grammar.specs.Layers.{goes, run, may_end, rule_of}
use Rattle.sj_grammar.specs.Faults.{broken, Halts, Stuck}
use Rattle.sj_grammar.specs.Refusals.{StuckInside, OnFault}
use Rattle.sj_grammar.specs.Expressions.{operand_count}
use Rattle.sj_grammar.specs.ExpressionDues.{ExpressionDue, whole, times, plus, compare, expression_at, expression_layer}
use Rattle.sj_grammar.specs.FileDues.{Due, expr, file_layer}
use Rattle.sj_grammar.specs.Viable.{IsViable}
use Rattle.sj_grammar.proofs.StepLemmas.{due_behind}
use Rattle.sj_grammar.proofs.StucknessLemmas.{stuck_block, stuck_like}
use Rattle.sj_grammar.proofs.EmbeddingLemmas.{IsEmbedded}
use Rattle.sj_grammar.proofs.FramingLemmas.{stuck_framed, run_framed, skip_framed, ends_framed}
use Rattle.sj_grammar.proofs.InsideLemmas.{inside_here}
use Rattle.sj_proto.specs.Parsed.{Stops}
use Rattle.sj_expr.specs.Read.{ReadsWhole, ReadsExpression, AllPass, EndsAt}
use Rattle.sj_expr.specs.Viable.{IsSomeExpression}
use Rattle.sj_expr.proofs.RunLemmas.{Goes}
use Rattle.sj_expr.proofs.ViabilityLemmas.{not_viable, viable_next}
use Rattle.sj_expr.proofs.ReadLemmas.{agrees_itself}
use Rattle.sj_expr.proofs.WholeRunLemmas.{first_piece, whole_run, whole_step, is_due}
use Rattle.sj_proto.proofs.FrontLemmas.{spelling_at}

pub expressions_embedded : IsEmbedded expression_layer file_layer expr
expressions_embedded = record { follows = λ d s. refl; nones = λ d. refl; counts = λ n d s. refl; limits = λ L n d s. refl }

-- a text that is stuck in an expression is stuck from its first token on
whole_inside : (n : ℕ) (a : At) (f : Fault) → StuckInside expression_layer limits 0 a (expression_at 0) f → StuckInside expression_layer limits n a (whole ∷ []) f
whole_inside n a f st = by_pieces st.stuck.pieces st.stuck.there st.stuck.count st.stuck.dues st.stuck.front st.stuck.fits st.stuck.halts st.inside
  where
    at_first : (x : Ahead) → broken expression_layer limits n (whole ∷ []) x ≡ broken expression_layer limits 0 (expression_at 0) x
    at_first at_end = refl
    at_first (bad r rest) = refl
    at_first (token what s rest) = ap rule_of (whole_step limits n [] s)

    by_pieces : (ps : Pieces) (b : At) (k : ℕ) (due : List ExpressionDue) → Begins a ps b → run expression_layer limits 0 (expression_at 0) ps ≡ goes k due → Halts expression_layer limits k b due f → may_end expression_layer due ≡ false
        → StuckInside expression_layer limits n a (whole ∷ []) f
    by_pieces [] b k due front fits halts inside =
        let counted : 0 ≡ k = cc in
        let same : expression_at 0 ≡ due = cc in
        let was : Halts expression_layer limits 0 a (expression_at 0) f =
        subst (λ (x : At). Halts expression_layer limits 0 x (expression_at 0) f) (sym front)
        (subst (λ (gs : List ExpressionDue). Halts expression_layer limits 0 b gs f) (sym same) (subst (λ (j : ℕ). Halts expression_layer limits j b due f) (sym counted) halts)) in
        inside_here expression_layer limits n a (whole ∷ []) f refl (record { rule = was.rule; breaks = at_first (next_of a.text.ahead) ∙ was.breaks; fault = was.fault })
    by_pieces (s ∷ ps) b k due front fits halts inside = record {
      stuck = record { pieces = s ∷ ps; there = b; count = k; dues = due; front = front; fits = (whole_run limits n k [] due s ps (record { steps = fits })).steps; halts = halts };
      inside = inside;
    }

pub expression_stuck : (n : ℕ) (a : At) (ds : List Due) (f : Fault) → StuckInside expression_layer limits 0 a (expression_at 0) f → Stuck file_layer limits n a (expr whole ∷ ds) f
expression_stuck n a ds f st = stuck_framed expression_layer file_layer expr expressions_embedded limits ds n a (whole ∷ []) f (whole_inside n a f st)

-- what passes by all that is left is none of it
none_due : (left : List ExpressionDue) (x : Ahead) (what : What) (s rest : List ℕ) → AllPass left x → x ≡ token what s rest → due_behind expression_layer left s ≡ None
none_due [] x what s rest p e = refl
none_due (d ∷ ds) x what s rest p e =
    let mine = subst (λ (y : Ahead). AllPass (d ∷ ds) y) e p in
    rw mine.0 (by_none (none_due ds x what s rest p.1 e) (expression_layer.may_be_none d))
  where
    by_none : due_behind expression_layer ds s ≡ None → (b : Bool) → (if b then due_behind expression_layer ds s else None) ≡ None
    by_none later true = later
    by_none later false = refl

-- the reader stands after an expression, and what comes next goes on with none
pub expression_read : (a b : At) (t : Term) → operand_count t ≤ 256 → ReadsWhole 0 0 a b t → ReadsExpression a b t
expression_read a b t few r = record {
  reads = record { pieces = r.reads.pieces; begins = r.reads.begins; are = λ names g. record { spelt = r.reads.are names g; few = few } };
  ends = by_next (next_of b.text.ahead) r.passes;
}
  where
    ran : Goes limits 0 (whole ∷ []) r.reads.pieces (operand_count t) r.left
    ran =
        let x = first_piece (r.reads.are (spelling_at b) (agrees_itself b)) in
        let leads : Goes limits 0 (expression_at 0) r.reads.pieces (operand_count t) r.left = record { steps = r.leads [] ∙ (λ i. goes (counted i) (append-nil r.left i)) } in
        let split : Goes limits 0 (expression_at 0) (x.0 ∷ x.1) (operand_count t) r.left = subst (λ (ps : Pieces). Goes limits 0 (expression_at 0) ps (operand_count t) r.left) x.2 leads in
        subst (λ (ps : Pieces). Goes limits 0 (whole ∷ []) ps (operand_count t) r.left) (sym x.2) (whole_run limits 0 (operand_count t) [] r.left x.0 x.1 split)
      where
        counted : 0 + operand_count t ≡ operand_count t
        counted = omega arith

    by_next : (x : Ahead) → AllPass r.left x → EndsAt r.reads.pieces x
    by_next at_end p = tt
    by_next (bad l rest) p = tt
    by_next (token what s rest) p = not_viable limits r.reads.pieces 0 (operand_count t) r.left s ran.steps (none_due r.left (token what s rest) what s rest p refl)

-- after an expression the text is stuck where it is stuck from there on
pub expression_leads : (n : ℕ) (a b : At) (t : Term) (ds : List Due) (f : Fault) → ReadsExpression a b t → Stuck file_layer limits (operand_count t) b ds f → Stuck file_layer limits n a (expr whole ∷ ds) f
expression_leads n a b t ds f r st =
    elim (is_due limits (spelling_at b) t r.reads.pieces n [] (r.reads.are (spelling_at b) (agrees_itself b))) [ inl e ↦ behind (times 0 ∷ plus 0 ∷ compare 0 ∷ []) refl e | inr e ↦ behind (times 0 ∷ plus 0 ∷ []) refl e ]
  where
    behind : (left : List ExpressionDue) → may_end expression_layer left ≡ true → run expression_layer limits n (whole ∷ []) r.reads.pieces ≡ goes (operand_count t) left → Stuck file_layer limits n a (expr whole ∷ ds) f
    behind left may e =
        stuck_block file_layer limits n (operand_count t) a b r.reads.pieces (expr whole ∷ ds) (map expr left ++ ds) f r.reads.begins
        (record { steps = run_framed expression_layer file_layer expr expressions_embedded limits ds r.reads.pieces n (operand_count t) (whole ∷ []) left e })
        (stuck_like file_layer limits (operand_count t) (operand_count t) b ds (map expr left ++ ds) f (ends_framed expression_layer file_layer expr expressions_embedded limits ds left may)
        (λ what s rest next. skip_framed expression_layer file_layer expr expressions_embedded limits ds (operand_count t) left s may (nothing (next_of b.text.ahead) what s rest r.ends next)) st)
      where
        nothing : (x : Ahead) (what : What) (s rest : List ℕ) → EndsAt r.reads.pieces x → x ≡ token what s rest → due_behind expression_layer left s ≡ None
        nothing x what s rest stops next = by_due (due_behind expression_layer left s) refl
          where
            by_due : (y : Option (List ExpressionDue)) → due_behind expression_layer left s ≡ y → y ≡ None
            by_due None h = refl
            by_due (Some es) h =
                let fails : IsViable IsSomeExpression (r.reads.pieces ++ s ∷ []) → ⊥ = subst (λ (z : Ahead). EndsAt r.reads.pieces z) next stops in
                absurd (fails (viable_next limits r.reads.pieces n (operand_count t) left es s e h))

-- what the reader of whole expressions answers
pub ok_read : (r : Result Expr ParseRefusal) (a b : At) (k : ℕ) → IfOk r (λ e. ReadsWhole 0 0 a b (term_of e)) → IfOk r (λ e. k ≡ 0 + operand_count (term_of e)) → IfOk r (λ e. k ≤ 256) → IfOk r (λ e. ReadsExpression a b (term_of e))
ok_read (Ok e) a b k reads count few = expression_read a b (term_of e) (omega arith) reads
ok_read (Err e) a b k reads count few = tt

pub err_stops : (r : Result Expr ParseRefusal) (a : At) → IfErr r (OnFault (λ f. StuckInside expression_layer limits 0 a (expression_at 0) f)) → IfErr r (λ e. (n : ℕ) → Stops (λ ds. expr whole ∷ ds) n a e)
err_stops (Ok e) a h = tt
err_stops (Err (refusals.At f)) a h = λ n ds. expression_stuck n a ds f h
err_stops (Err refusals.NoMemory) a h = λ n. tt
