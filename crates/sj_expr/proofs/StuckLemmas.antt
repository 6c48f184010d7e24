-- Where a text is stuck in an expression.
use Rattle.std.proofs.Common.{◌≡◌, ℕ, ◌+◌, ◌≤◌, List, [], ◌∷◌, ◌++◌, refl, subst, arith}
use Rattle.std.specs.Prelude.{codes}
use Rattle.sj_lang.specs.declared.party.Op.{Op}
use Rattle.sj_lang.specs.Term.{Term}
use Rattle.sj_grammar.specs.declared.tokens.Fault.{Fault}
use Rattle.sj_lang.specs.Limits.{limits}
use Rattle.sj_grammar.specs.Positions.{At, Takes}
use Rattle.sj_grammar.specs.Refusals.{StuckInside}
use Rattle.sj_grammar.specs.Expressions.{operand_count}
use Rattle.sj_grammar.specs.Expressions as level
use Rattle.sj_grammar.specs.ExpressionDues.{ExpressionDue, factor, times, plus, compare, expression_at, expression_layer}
use Rattle.sj_grammar.proofs.FramingLemmas.{inside_before}
use Rattle.sj_grammar.proofs.InsideLemmas.{inside_cons, inside_block}
use Rattle.sj_expr.specs.Read.{ReadsLevel}
use Rattle.sj_expr.specs.Signs.{op_piece, IsSign, IsComparison}
use Rattle.sj_expr.proofs.RunLemmas.{runs}
use Rattle.sj_expr.proofs.LevelLemmas.{itself_within, spelt_there, sign_step, comparison_step}
use Rattle.sj_proto.proofs.FrontLemmas.{spelling_at}

abbrev pub Inside : ℕ → At → List ExpressionDue → Fault → Type 0
Inside n a ds f = StuckInside expression_layer limits n a ds f

abbrev pub before : (rest : List ExpressionDue) (n : ℕ) (a : At) (ds : List ExpressionDue) (f : Fault) → Inside n a ds f → Inside n a (ds ++ rest) f
before rest n a ds f st = inside_before expression_layer limits rest n a ds f st

-- what may come first, and may be stuck
pub term_first : (n o : ℕ) (a : At) (f : Fault) → Inside n a (factor o ∷ []) f → Inside n a (factor o ∷ times o ∷ []) f
term_first n o a f st = before (times o ∷ []) n a (factor o ∷ []) f st

pub sum_first : (n o : ℕ) (a : At) (f : Fault) → Inside n a (factor o ∷ times o ∷ []) f → Inside n a (factor o ∷ times o ∷ plus o ∷ []) f
sum_first n o a f st = before (plus o ∷ []) n a (factor o ∷ times o ∷ []) f st

pub whole_first : (n o : ℕ) (a : At) (f : Fault) → Inside n a (factor o ∷ times o ∷ plus o ∷ []) f → Inside n a (expression_at o) f
whole_first n o a f st = before (compare o ∷ []) n a (factor o ∷ times o ∷ plus o ∷ []) f st

-- after what was read
term_block : (n k o : ℕ) (a b : At) (t : Term) (ds : List ExpressionDue) (f : Fault) → ReadsLevel level.term o a b t → k ≡ n + operand_count t → k ≤ 256 → Inside k b (times o ∷ ds) f → Inside n a (factor o ∷ times o ∷ ds) f
term_block n k o a b t ds f r count few st =
    inside_block expression_layer limits n (n + operand_count t) a b r.pieces (factor o ∷ times o ∷ ds) (times o ∷ ds) f r.begins (runs limits limits (spelling_at b) itself_within (spelt_there r) n ds (omega arith))
    (subst (λ (j : ℕ). Inside j b (times o ∷ ds) f) count st)

sum_block : (n k o : ℕ) (a b : At) (t : Term) (ds : List ExpressionDue) (f : Fault) → ReadsLevel level.sum o a b t → k ≡ n + operand_count t → k ≤ 256 → Inside k b (times o ∷ plus o ∷ ds) f → Inside n a (factor o ∷ times o ∷ plus o ∷ ds) f
sum_block n k o a b t ds f r count few st =
    inside_block expression_layer limits n (n + operand_count t) a b r.pieces (factor o ∷ times o ∷ plus o ∷ ds) (times o ∷ plus o ∷ ds) f r.begins (runs limits limits (spelling_at b) itself_within (spelt_there r) n ds (omega arith))
    (subst (λ (j : ℕ). Inside j b (times o ∷ plus o ∷ ds) f) count st)

pub term_next : (n k o : ℕ) (a b u : At) (t : Term) (f : Fault) → ReadsLevel level.term o a b t → k ≡ n + operand_count t → k ≤ 256 → Takes b (codes "*") u → Inside k u (factor o ∷ []) f → Inside n a (factor o ∷ times o ∷ []) f
term_next n k o a b u t f r count few taken st =
    term_block n k o a b t [] f r count few
    (inside_cons expression_layer limits k k b u (codes "*") (times o ∷ []) (factor o ∷ times o ∷ []) f taken refl (term_first k o u f st))

pub sum_next : (op : Op) (n k o : ℕ) (a b u : At) (t : Term) (f : Fault) → IsSign op → ReadsLevel level.sum o a b t → k ≡ n + operand_count t → k ≤ 256 → Takes b (op_piece op) u → Inside k u (factor o ∷ times o ∷ []) f
    → Inside n a (factor o ∷ times o ∷ plus o ∷ []) f
sum_next op n k o a b u t f is r count few taken st =
    sum_block n k o a b t [] f r count few
    (inside_cons expression_layer limits k k b u (op_piece op) (times o ∷ plus o ∷ []) (factor o ∷ times o ∷ plus o ∷ []) f taken (sign_step op k o [] is) (sum_first k o u f st))

pub whole_next : (op : Op) (n k o : ℕ) (a b u : At) (t : Term) (f : Fault) → IsComparison op → ReadsLevel level.sum o a b t → k ≡ n + operand_count t → k ≤ 256 → Takes b (op_piece op) u → Inside k u (factor o ∷ times o ∷ plus o ∷ []) f
    → Inside n a (expression_at o) f
whole_next op n k o a b u t f is r count few taken st =
    sum_block n k o a b t (compare o ∷ []) f r count few
    (inside_cons expression_layer limits k k b u (op_piece op) (times o ∷ plus o ∷ compare o ∷ []) (factor o ∷ times o ∷ plus o ∷ []) f taken (comparison_step op k o [] is) st)
