-- The pieces of an expression are those of no other one.
use Rattle.std.proofs.Common.{◌≡◌, ℕ, Bool, true, false, List, [], ◌∷◌, ◌++◌, Option, Some, None, refl, ap, sym, subst, ◌∙◌, arith}
use Rattle.std.specs.Prelude.{codes, ◌||◌}
use Rattle.std.specs.Str.{bytes_eq}
use Rattle.std.proofs.lemmas.List.{append_cancel_right}
use Rattle.sj_lang.specs.Term.{Term, text, var}
use Rattle.sj_lang.specs.Term as term
use Rattle.sj_grammar.specs.Literals.{is_number, is_text}
use Rattle.sj_grammar.specs.Names.{is_name}
use Rattle.sj_lang.specs.Limits.{Limits}
use Rattle.sj_grammar.specs.Tables.{Spelling}
use Rattle.sj_grammar.specs.Positions.{Pieces}
use Rattle.sj_grammar.specs.Expressions.{Spelt}
use Rattle.sj_grammar.specs.Expressions as level
use Rattle.sj_grammar.proofs.SpellingLemmas.{same_first}
use Rattle.sj_expr.specs.Ends.{Ends}
use Rattle.sj_expr.proofs.ShapeLemmas.{Shape, leaf, minus, negated, joined, wants, has, moved, Sign, sign_by, sign_of, by_term, reading}
use Rattle.sj_expr.proofs.ShapeLemmas
use Rattle.sj_expr.proofs.ReadingLemmas.{reads}
use Rattle.sj_expr.proofs.FrameLemmas.{IsEnd, First}
use Rattle.sj_expr.proofs.ShapeTermLemmas.{leaf_by, IsShapeOf}

module _ (L : Limits) (names : Spelling) where
  one_leaf : (a b c d : Bool) (s : List ℕ) (t u : Term) → leaf_by L names a b c d s t → leaf_by L names a b c d s u → t ≡ u
  one_leaf true b c d s t u h g = h ∙ sym g
  one_leaf false true c d s t u h g = h.1 ∙ ap text (same_first names.text h.0 g.0 h.2.first g.2.first (h.3 ∙ sym g.3)) ∙ sym g.1
  one_leaf false false true d s t u h g = h.1 ∙ ap var (same_first names.word h.0 g.0 h.2.first g.2.first (h.3 ∙ sym g.3)) ∙ sym g.1
  one_leaf false false false true s t u h g = h ∙ sym g
  one_leaf false false false false s t u h g = h ∙ sym g

  one_term : (s : Shape) (t u : Term) → IsShapeOf L names s t → IsShapeOf L names s u → t ≡ u
  one_term (leaf s) t u h g = one_leaf (is_number s) (is_text s) (is_name s) (bytes_eq s (codes "true")) s t u h g
  one_term (minus s) t u h g = h ∙ sym g
  one_term (negated s) t u h g = h.2 ∙ ap term.not (one_term s h.0 g.0 h.1 g.1) ∙ sym g.2
  one_term (joined op s r) t u h g = h.4 ∙ (λ i. term.two op (one_term s h.0 g.0 h.2 g.2 i) (one_term r h.1 g.1 h.3 g.3 i)) ∙ sym g.4

  sign_ends : (a b c d e f k : Bool) → (a || (b || (c || (d || (e || f))))) ≡ false → IsEnd (sign_by a b c d e f k)
  sign_ends true b c d e f k h = let no : ⊥ = cc in absurd no
  sign_ends false true c d e f k h = let no : ⊥ = cc in absurd no
  sign_ends false false true d e f k h = let no : ⊥ = cc in absurd no
  sign_ends false false false true e f k h = let no : ⊥ = cc in absurd no
  sign_ends false false false false true f k h = let no : ⊥ = cc in absurd no
  sign_ends false false false false false true k h = let no : ⊥ = cc in absurd no
  sign_ends false false false false false false true h = tt
  sign_ends false false false false false false false h = tt

  first_ends : (x : Pieces) → Ends x → First IsEnd x
  first_ends [] e = tt
  first_ends (s ∷ ps) e =
      sign_ends (bytes_eq s (codes "*")) (bytes_eq s (codes "+")) (bytes_eq s (codes "-")) (bytes_eq s (codes "<")) (bytes_eq s (codes "<=")) (bytes_eq s (codes "==")) (bytes_eq s (codes ")")) e

  -- where nothing waits and nothing goes on, that is what was read
  read_whole : (s : Shape) (x : Pieces) → First IsEnd x → reading (has s []) x ≡ Some (s, x)
  read_whole s [] h = refl
  read_whole s (c ∷ ps) h = by_sign (sign_of c) h
    where
      by_sign : (g : Sign) → IsEnd g → moved (by_term g (s, [])) (λ next. reading next ps) (Some (s, c ∷ ps)) ≡ Some (s, c ∷ ps)
      by_sign ShapeLemmas.star h = absurd h
      by_sign (ShapeLemmas.plus op) h = absurd h
      by_sign (ShapeLemmas.compare op) h = absurd h
      by_sign ShapeLemmas.close h = refl
      by_sign ShapeLemmas.other h = refl

  abbrev shape_in : Option (Shape × Pieces) → Shape
  shape_in None = leaf []
  shape_in (Some p) = p.0

  abbrev rest_in : Option (Shape × Pieces) → Pieces
  rest_in None = []
  rest_in (Some p) = p.1

  pub one_expression : (t u : Term) (a b x y : Pieces) → Spelt L names level.whole 0 t a → Spelt L names level.whole 0 u b → a ++ x ≡ b ++ y → Ends x → Ends y → (t ≡ u) × (a ≡ b) × (x ≡ y)
  one_expression t u a b x y r q e ex ey =
      let f = reads L names r in
      let g = reads L names q in
      let ra : reading (wants []) (a ++ x) ≡ Some (f.0, x) = f.2 [] x (omega arith) (first_ends x ex) ∙ read_whole f.0 x (first_ends x ex) in
      let rb : reading (wants []) (b ++ y) ≡ Some (g.0, y) = g.2 [] y (omega arith) (first_ends y ey) ∙ read_whole g.0 y (first_ends y ey) in
      let both = sym ra ∙ ap (reading (wants [])) e ∙ rb in
      let shapes : f.0 ≡ g.0 = ap shape_in both in
      let rests : x ≡ y = ap rest_in both in
      let same : a ++ y ≡ b ++ y = sym (ap (λ (z : Pieces). a ++ z) rests) ∙ e in
      (one_term f.0 t u f.1 (subst (λ (s : Shape). IsShapeOf L names s u) (sym shapes) g.1), append_cancel_right a b y same, rests)
