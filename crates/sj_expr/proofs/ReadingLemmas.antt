-- Each expression is read as its shape, and each shape stands for one term.
use Rattle.std.proofs.Common.{◌≡◌, ℕ, ◌≤◌, List, [], ◌∷◌, ◌++◌, refl, ap, sym, subst, ◌∙◌, append_assoc, arith}
use Rattle.std.specs.Prelude.{codes}
use Rattle.sj_lang.specs.declared.party.Op.{Op}
use Rattle.sj_lang.specs.declared.party.Op.TheVariants.{Add, Sub, Mul, Less, LessEq, Equal}
use Rattle.sj_lang.specs.Term.{Term, text}
use Rattle.sj_lang.specs.Term as term
use Rattle.sj_grammar.specs.Literals.{quoted}
use Rattle.sj_lang.specs.Limits.{Limits}
use Rattle.sj_grammar.specs.Tables.{Spelling}
use Rattle.sj_grammar.specs.Positions.{Pieces}
use Rattle.sj_grammar.specs.Expressions.{Level, Spelt}
use Rattle.sj_grammar.specs.Expressions as level
use Rattle.sj_expr.proofs.TokenLemmas.{no_largest, quoted_text, name_no_number, inner_quoted, text_no_number}
use Rattle.sj_expr.proofs.ShapeLemmas.{Shape, leaf, minus, negated, joined, OpenOperand, negation, group, product, addition, comparison, State, wants, has, moved, Sign, plus, compare, sign_of, Held, settled, up_product, up_addition, by_term, at_term, reading}
use Rattle.sj_expr.proofs.FrameLemmas.{rank, need, settled_free, product_free, addition_free, IsNoStar, MayFollow, same_term, same_sum, compared_is, no_star_first}
use Rattle.sj_expr.proofs.ShapeTermLemmas.{IsShapeOf}
use Rattle.sj_proto.proofs.NameLemmas.{name_no_text}
use Rattle.sj_expr.proofs.OperandLemmas.{number_operand, true_operand, false_operand, text_operand, name_operand, not_no_operand, true_no_name, false_no_name}

abbrev pub arrives : Level → Shape → List OpenOperand → State
arrives level.factor s k = settled s k
arrives level.term s k = has s k
arrives level.sum s k = has s k
arrives level.whole s k = has s k

module _ (L : Limits) (names : Spelling) where
  -- the pieces are read as a shape of the term, whatever stands before them and whatever may follow
  abbrev pub IsRead : Level → Term → Pieces → Type 0
  IsRead l t a = (s : Shape) × IsShapeOf L names s t × ((k : List OpenOperand) (x : Pieces) → need l ≤ rank k → MayFollow l x → reading (wants k) (a ++ x) ≡ reading (arrives l s k) x)

  added : (op : Op) (c : List ℕ) (t u : Term) (a b : Pieces) → sign_of c ≡ plus op → IsRead level.sum t a → IsRead level.term u b → IsRead level.sum (term.two op t u) (a ++ c ∷ b)
  added op c t u a b e f g = (
    joined op f.0 g.0,
    (t, u, f.1, g.1, refl),
    λ k x high n.
        ap (reading (wants k)) (append_assoc a (c ∷ b) x)
        ∙ f.2 k (c ∷ (b ++ x)) high (subst IsNoStar (sym e) tt)
        ∙ ap (λ (y : Sign). moved (by_term y (up_product f.0 k)) (λ next. reading next (b ++ x)) (at_term (up_product f.0 k) (c ∷ (b ++ x)))) e
        ∙ ap (λ (h : Held). let j = up_addition h.0 h.1 in reading (wants (addition op j.0 ∷ j.1)) (b ++ x)) (product_free f.0 k (omega arith))
        ∙ ap (λ (j : Held). reading (wants (addition op j.0 ∷ j.1)) (b ++ x)) (addition_free f.0 k (omega arith))
        ∙ g.2 (addition op f.0 ∷ k) x (omega arith) tt
        ∙ same_sum g.0 (joined op f.0 g.0) (addition op f.0 ∷ k) k x n
        ((g.0, addition op f.0 ∷ k), refl, (joined op f.0 g.0, k), product_free (joined op f.0 g.0) k (omega arith), sym (addition_free (joined op f.0 g.0) k (omega arith))),
  )

  related : (op : Op) (c : List ℕ) (t u : Term) (a b : Pieces) → sign_of c ≡ compare op → IsRead level.sum t a → IsRead level.sum u b → IsRead level.whole (term.two op t u) (a ++ c ∷ b)
  related op c t u a b e f g = (
    joined op f.0 g.0,
    (t, u, f.1, g.1, refl),
    λ k x high n.
        ap (reading (wants k)) (append_assoc a (c ∷ b) x)
        ∙ f.2 k (c ∷ (b ++ x)) (omega arith) (subst IsNoStar (sym e) tt)
        ∙ ap (λ (y : Sign). moved (by_term y (up_product f.0 k)) (λ next. reading next (b ++ x)) (at_term (up_product f.0 k) (c ∷ (b ++ x)))) e
        ∙ ap (λ (h : Held). let j = up_addition h.0 h.1 in reading (wants (comparison op j.0 ∷ j.1)) (b ++ x)) (product_free f.0 k (omega arith))
        ∙ ap (λ (j : Held). reading (wants (comparison op j.0 ∷ j.1)) (b ++ x)) (addition_free f.0 k (omega arith))
        ∙ g.2 (comparison op f.0 ∷ k) x (omega arith) (no_star_first x n)
        ∙ compared_is f.0 g.0 op k x high n,
  )

  pub reads : {l : Level} {o : ℕ} {t : Term} {a : Pieces} → Spelt L names l o t a → IsRead l t a
  reads (level.of_number {ds} t h) = (leaf ds, rw t refl, λ k x high n. rw (number_operand ds t (no_largest ds h)) refl)
  reads (level.of_minus {ds} t) = (minus ds, refl, λ k x high n. refl)
  reads level.of_true = (leaf (codes "true"), rw true_no_name refl, λ k x high n. rw true_operand refl)
  reads level.of_false = (leaf (codes "false"), rw false_no_name refl, λ k x high n. rw false_operand refl)
  reads (level.of_text {n = m} is) =
      let w = names.text m in
      (leaf (quoted w), rw (text_no_number w, quoted_text w is.printable) (m, refl, is, sym (inner_quoted w)), λ k x high n. rw (text_operand (quoted w) (quoted_text w is.printable)) refl)
  reads (level.of_name {n = m} is) =
      let w = names.word m in
      (leaf w, rw (name_no_number w is.name, name_no_text w is.name, is.name) (m, refl, is, refl), λ k x high n. rw (name_operand w is.name) refl)
  reads (level.of_not {t} {a} h r) =
      let f = reads r in
      (negated f.0, (t, f.1, refl), λ k x high n. rw not_no_operand (f.2 (negation ∷ k) x (omega arith) tt))
  reads (level.of_parens {t} {a} h r) =
      let f = reads r in
      (f.0, f.1, λ k x high n. ap (reading (wants (group ∷ k))) (append_assoc a (codes ")" ∷ []) x) ∙ f.2 (group ∷ k) (codes ")" ∷ x) (omega arith) tt)
  reads (level.of_factor r) =
      let f = reads r in
      (f.0, f.1, λ k x high n. f.2 k x (omega arith) tt ∙ ap (λ (st : State). reading st x) (settled_free f.0 k (omega arith)))
  reads (level.of_product {t} {u} {a} {b} r q) =
      let f = reads r in
      let g = reads q in (
        joined Mul f.0 g.0,
        (t, u, f.1, g.1, refl),
        λ k x high n.
            ap (reading (wants k)) (append_assoc a (codes "*" ∷ b) x)
            ∙ f.2 k (codes "*" ∷ (b ++ x)) high tt
            ∙ ap (λ (h : Held). reading (wants (product h.0 ∷ h.1)) (b ++ x)) (product_free f.0 k (omega arith))
            ∙ g.2 (product f.0 ∷ k) x (omega arith) tt
            ∙ same_term g.0 (joined Mul f.0 g.0) (product f.0 ∷ k) k x (sym (product_free (joined Mul f.0 g.0) k (omega arith))),
      )
  reads (level.of_term r) =
      let f = reads r in
      (f.0, f.1, λ k x high n. f.2 k x (omega arith) tt)
  reads (level.of_addition {t} {u} {a} {b} r q) = added Add (codes "+") t u a b refl (reads r) (reads q)
  reads (level.of_difference {t} {u} {a} {b} r q) = added Sub (codes "-") t u a b refl (reads r) (reads q)
  reads (level.of_sum r) =
      let f = reads r in
      (f.0, f.1, λ k x high n. f.2 k x (omega arith) (no_star_first x n))
  reads (level.of_less {t} {u} {a} {b} r q) = related Less (codes "<") t u a b refl (reads r) (reads q)
  reads (level.of_less_eq {t} {u} {a} {b} r q) = related LessEq (codes "<=") t u a b refl (reads r) (reads q)
  reads (level.of_equal {t} {u} {a} {b} r q) = related Equal (codes "==") t u a b refl (reads r) (reads q)
