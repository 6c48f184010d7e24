-- The canonical text of an expression, in the order in which it is put.
use Rattle.std.proofs.Common.{◌≡◌, Bool, true, false, List, [], ◌++◌, ap, sym, ◌∙◌, append_assoc, append-nil}
use Rattle.std.specs.Prelude.{ℕ, codes, if◌then◌else◌}
use Rattle.std.specs.declared.alloc.Global.{Global}
use Rattle.std.specs.declared.boxed.Box.{Box}
use Rattle.sj_lang.specs.declared.party.Op.{Op}
use Rattle.sj_lang.specs.declared.party.Expr.{Expr}
use Rattle.sj_lang.specs.declared.party.Expr.TheVariants as exprs
use Rattle.sj_lang.specs.CodeView.{term_of}
use Rattle.sj_lang.proofs.FoldLemmas.{term_of-Not, term_of-Two}
use Rattle.sj_grammar.specs.Tables.{Spelling}
use Rattle.sj_grammar.specs.Expressions.{Level, factor}
use Rattle.sj_party.specs.CanonicalExpression.{left_of, right_of, needs_parens, enclosed, spaced_op, expression_text}

pub not_text : (names : Spelling) (l : Level) (e f : Expr) (b : Box Expr Global) → e ≡ exprs.Not b → f ≡ b.value → expression_text names l (term_of e) ≡ codes "not " ++ expression_text names factor (term_of f)
not_text names l e f b is inner = ap (λ x. expression_text names l (term_of x)) is ∙ ap (expression_text names l) (term_of-Not b) ∙ ap (λ x. codes "not " ++ expression_text names factor (term_of x)) (sym inner)

abbrev pub mark_if : Bool → List ℕ → List ℕ
mark_if b mark = if b then mark else []

in_order : (b : Bool) (x y z : List ℕ) → enclosed b (x ++ (y ++ z)) ≡ mark_if b (codes "(") ++ (x ++ (y ++ (z ++ mark_if b (codes ")"))))
in_order true x y z = ap (λ t. codes "(" ++ t) (append_assoc x (y ++ z) (codes ")") ∙ ap (λ t. x ++ t) (append_assoc y z (codes ")")))
in_order false x y z = ap (λ t. x ++ (y ++ t)) (sym (append-nil z))

pub two_text : (names : Spelling) (l m n : Level) (e f g : Expr) (op : Op) (a b : Box Expr Global) (parens : Bool) (sign : List ℕ)
    → e ≡ exprs.Two op a b → f ≡ a.value → g ≡ b.value → parens ≡ needs_parens l op → m ≡ left_of op → n ≡ right_of op → sign ≡ spaced_op op
    → expression_text names l (term_of e) ≡ mark_if parens (codes "(") ++ (expression_text names m (term_of f) ++ (sign ++ (expression_text names n (term_of g) ++ mark_if parens (codes ")"))))
two_text names l m n e f g op a b parens sign is left right needed on_left on_right between =
    ap (λ x. expression_text names l (term_of x)) is ∙ ap (expression_text names l) (term_of-Two op a b)
    ∙ in_order (needs_parens l op) (expression_text names (left_of op) (term_of a.value)) (spaced_op op) (expression_text names (right_of op) (term_of b.value))
    ∙ (λ i. mark_if (sym needed i) (codes "(") ++ (expression_text names (sym on_left i) (term_of (sym left i)) ++ (sym between i ++ (expression_text names (sym on_right i) (term_of (sym right i)) ++ mark_if (sym needed i) (codes ")")))))
