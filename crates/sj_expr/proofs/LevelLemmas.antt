-- Terms, sums and whole expressions: what was read.
use Rattle.std.proofs.Common.{◌≡◌, ℕ, suc, ◌+◌, ◌<◌, ◌≤◌, List, [], ◌∷◌, ◌++◌, refl, subst, arith}
use Rattle.std.specs.Prelude.{codes}
use Rattle.sj_lang.specs.declared.party.Op.{Op}
use Rattle.sj_lang.specs.declared.party.Op.TheVariants.{Add, Sub, Mul, Less, LessEq, Equal}
use Rattle.sj_lang.specs.Term.{Term}
use Rattle.sj_lang.specs.Term as term
use Rattle.sj_lang.specs.Limits.{limits}
use Rattle.sj_grammar.specs.Lexis.{next_of}
use Rattle.sj_grammar.specs.Tables.{Spelling}
use Rattle.sj_grammar.specs.Positions.{Pieces, At, Takes}
use Rattle.sj_grammar.specs.Layers.{goes, step}
use Rattle.sj_grammar.specs.Asked.{Passes}
use Rattle.sj_grammar.specs.Expressions.{Level, Spelt, operand_count}
use Rattle.sj_grammar.specs.Expressions as level
use Rattle.sj_grammar.specs.ExpressionDues.{ExpressionDue, factor, times, plus, compare, expression_layer}
use Rattle.sj_grammar.proofs.StucknessLemmas.{Begins-append}
use Rattle.sj_expr.specs.Read.{ReadsLevel, ReadsWhole}
use Rattle.sj_expr.specs.Signs.{op_piece, IsSign, IsComparison}
use Rattle.sj_expr.proofs.RunLemmas.{IsWithin, runs, compared_run}
use Rattle.sj_expr.proofs.ReadLemmas.{agrees_back, agrees_itself, reads_cons, reads_two, reads_as}
use Rattle.sj_proto.proofs.FrontLemmas.{spelling_at}

pub itself_within : IsWithin limits limits
itself_within = record { nesting = omega arith; name = omega arith; text = omega arith }

-- the expression, by the spelling of the tables after it
pub spelt_there : {l : Level} {o : ℕ} {a b : At} {t : Term} → (r : ReadsLevel l o a b t) → Spelt limits (spelling_at b) l o t r.pieces
spelt_there {b} r = r.are (spelling_at b) (agrees_itself b)

pub not_read : (o k : ℕ) (a m b : At) (t : Term) → k ≡ suc o → o < 32 → Takes a (codes "not") m → ReadsLevel level.factor k m b t → ReadsLevel level.factor o a b (term.not t)
not_read o k a m b t e h taken r =
    reads_cons a m b (codes "not") (λ names ps. Spelt limits names level.factor k t ps) (λ names ps. Spelt limits names level.factor o (term.not t) ps) taken
    (λ names ps s. level.of_not h (subst (λ (j : ℕ). Spelt limits names level.factor j t ps) e s)) r

pub parens_read : (o k : ℕ) (a m b z : At) (t : Term) → k ≡ suc o → o < 32 → Takes a (codes "(") m → ReadsLevel level.whole k m b t → Takes b (codes ")") z → ReadsLevel level.factor o a z t
parens_read o k a m b z t e h opened r closed = record {
  pieces = codes "(" ∷ (r.pieces ++ codes ")" ∷ []);
  begins = (m, opened, Begins-append r.pieces (codes ")" ∷ []) m b z r.begins (z, closed, refl));
  are = λ names g. level.of_parens h (subst (λ (j : ℕ). Spelt limits names level.whole j t r.pieces) e (r.are names (agrees_back names (codes ")" ∷ []) b z (z, closed, refl) g)));
}

pub factor_read : (o : ℕ) (a b : At) (t : Term) → ReadsLevel level.factor o a b t → ReadsLevel level.term o a b t
factor_read o a b t r = reads_as a b (λ names ps. Spelt limits names level.factor o t ps) (λ names ps. Spelt limits names level.term o t ps) (λ names ps s. level.of_factor s) r

pub term_read : (o : ℕ) (a b : At) (t : Term) → ReadsLevel level.term o a b t → ReadsLevel level.sum o a b t
term_read o a b t r = reads_as a b (λ names ps. Spelt limits names level.term o t ps) (λ names ps. Spelt limits names level.sum o t ps) (λ names ps s. level.of_term s) r

pub product_read : (o : ℕ) (a m u b : At) (t v : Term) → ReadsLevel level.term o a m t → Takes m (codes "*") u → ReadsLevel level.factor o u b v → ReadsLevel level.term o a b (term.two Mul t v)
product_read o a m u b t v r taken q =
    reads_two a m u b (codes "*") (λ names ps. Spelt limits names level.term o t ps) (λ names ps. Spelt limits names level.factor o v ps) (λ names ps. Spelt limits names level.term o (term.two Mul t v) ps)
    (λ names ps qs s w. level.of_product s w) r taken q

pub sign_read : (op : Op) (o : ℕ) (a m u b : At) (t v : Term) → IsSign op → ReadsLevel level.sum o a m t → Takes m (op_piece op) u → ReadsLevel level.term o u b v → ReadsLevel level.sum o a b (term.two op t v)
sign_read op o a m u b t v is r taken q =
    reads_two a m u b (op_piece op) (λ names ps. Spelt limits names level.sum o t ps) (λ names ps. Spelt limits names level.term o v ps) (λ names ps. Spelt limits names level.sum o (term.two op t v) ps)
    (λ names ps qs s w. by_sign op is s w) r taken q
  where
    by_sign : {names : Spelling} {ps qs : Pieces} → (op : Op) → IsSign op → Spelt limits names level.sum o t ps → Spelt limits names level.term o v qs → Spelt limits names level.sum o (term.two op t v) (ps ++ op_piece op ∷ qs)
    by_sign Add is s w = level.of_addition s w
    by_sign Sub is s w = level.of_difference s w
    by_sign Mul is s w = absurd is
    by_sign Less is s w = absurd is
    by_sign LessEq is s w = absurd is
    by_sign Equal is s w = absurd is

comparison_spelt : (names : Spelling) (op : Op) (o : ℕ) (t v : Term) (ps qs : Pieces) → IsComparison op → Spelt limits names level.sum o t ps → Spelt limits names level.sum o v qs → Spelt limits names level.whole o (term.two op t v) (ps ++ op_piece op ∷ qs)
comparison_spelt names Add o t v ps qs is s w = absurd is
comparison_spelt names Sub o t v ps qs is s w = absurd is
comparison_spelt names Mul o t v ps qs is s w = absurd is
comparison_spelt names Less o t v ps qs is s w = level.of_less s w
comparison_spelt names LessEq o t v ps qs is s w = level.of_less_eq s w
comparison_spelt names Equal o t v ps qs is s w = level.of_equal s w

abbrev comparison_read : (op : Op) (o : ℕ) (a m u b : At) (t v : Term) → IsComparison op → ReadsLevel level.sum o a m t → Takes m (op_piece op) u → ReadsLevel level.sum o u b v → ReadsLevel level.whole o a b (term.two op t v)
comparison_read op o a m u b t v is r taken q =
    reads_two a m u b (op_piece op) (λ names ps. Spelt limits names level.sum o t ps) (λ names ps. Spelt limits names level.sum o v ps) (λ names ps. Spelt limits names level.whole o (term.two op t v) ps)
    (λ names ps qs s w. comparison_spelt names op o t v ps qs is s w) r taken q

-- operators as tokens
pub sign_step : (op : Op) (n o : ℕ) (ds : List ExpressionDue) → IsSign op → step expression_layer limits n (times o ∷ plus o ∷ ds) (op_piece op) ≡ goes n (factor o ∷ times o ∷ plus o ∷ ds)
sign_step Add n o ds is = refl
sign_step Sub n o ds is = refl
sign_step Mul n o ds is = absurd is
sign_step Less n o ds is = absurd is
sign_step LessEq n o ds is = absurd is
sign_step Equal n o ds is = absurd is

pub comparison_step : (op : Op) (n o : ℕ) (ds : List ExpressionDue) → IsComparison op → step expression_layer limits n (times o ∷ plus o ∷ compare o ∷ ds) (op_piece op) ≡ goes n (factor o ∷ times o ∷ plus o ∷ ds)
comparison_step Add n o ds is = absurd is
comparison_step Sub n o ds is = absurd is
comparison_step Mul n o ds is = absurd is
comparison_step Less n o ds is = refl
comparison_step LessEq n o ds is = refl
comparison_step Equal n o ds is = refl

-- a sum alone, with no comparison after it
pub sum_whole : (n o : ℕ) (a b : At) (t : Term) → n + operand_count t ≤ 256 → ReadsLevel level.sum o a b t → Passes expression_layer (times o) (next_of b.text.ahead) → Passes expression_layer (plus o) (next_of b.text.ahead)
    → Passes expression_layer (compare o) (next_of b.text.ahead) → ReadsWhole n o a b t
sum_whole n o a b t few r no_times no_plus no_compare = record {
  reads = reads_as a b (λ names ps. Spelt limits names level.sum o t ps) (λ names ps. Spelt limits names level.whole o t ps) (λ names ps s. level.of_sum s) r;
  left = times o ∷ plus o ∷ compare o ∷ [];
  leads = λ ds. (runs limits limits (spelling_at b) itself_within (spelt_there r) n (compare o ∷ ds) few).steps;
  may_end = refl;
  passes = (no_times, (no_plus, (no_compare, tt)));
}

-- two sums with a comparison between them
pub compared_whole : (op : Op) (n o : ℕ) (a m u b : At) (t v : Term) → n + (operand_count t + operand_count v) ≤ 256 → IsComparison op → ReadsLevel level.sum o a m t → Takes m (op_piece op) u → ReadsLevel level.sum o u b v
    → Passes expression_layer (times o) (next_of b.text.ahead) → Passes expression_layer (plus o) (next_of b.text.ahead) → ReadsWhole n o a b (term.two op t v)
compared_whole op n o a m u b t v few is r taken q no_times no_plus = record {
  reads = comparison_read op o a m u b t v is r taken q;
  left = times o ∷ plus o ∷ [];
  leads = λ ds. (compared_run limits (op_piece op) o r.pieces q.pieces n (operand_count t) (operand_count v) ds (comparison_step op (n + operand_count t) o ds is)
      (runs limits limits (spelling_at m) itself_within (spelt_there r) n (compare o ∷ ds) (omega arith))
      (runs limits limits (spelling_at b) itself_within (spelt_there q) (n + operand_count t) ds (omega arith))).steps;
  may_end = refl;
  passes = (no_times, (no_plus, tt));
}
