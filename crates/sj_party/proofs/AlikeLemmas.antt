-- Pieces that are alike.
use Rattle.std.proofs.Common.{◌≡◌, ℕ, List, [], ◌∷◌, ◌++◌, Option, Some, None, refl, ap, sym, subst, ◌∙◌, append_assoc}
use Rattle.std.specs.Prelude.{codes}
use Rattle.sj_lang.specs.Term.{Term}
use Rattle.sj_lang.specs.Limits.{Limits}
use Rattle.sj_grammar.specs.Tables.{Spelling}
use Rattle.sj_grammar.specs.Positions.{Pieces, Piece, plain, all_plain, spellings}
use Rattle.sj_grammar.specs.Expressions.{IsExpression}
use Rattle.sj_proto.proofs.LineLemmas.{spellings-append, spellings-plain}
use Rattle.sj_expr.specs.Ends.{Ends}
use Rattle.sj_expr.proofs.UniquenessLemmas.{one_expression}
use Rattle.sj_party.specs.Alike.{OnOneLine, AreAlike}

line_itself : (l : Option ℕ) → OnOneLine l l
line_itself None = tt
line_itself (Some l) = refl

line_back : (l k : Option ℕ) → OnOneLine l k → OnOneLine k l
line_back None None h = tt
line_back None (Some k) h = tt
line_back (Some l) None h = tt
line_back (Some l) (Some k) h = sym h

pub alike_itself : (a : List Piece) → AreAlike a a
alike_itself [] = tt
alike_itself (p ∷ a) = (refl, line_itself p.line, alike_itself a)

pub alike_back : (a b : List Piece) → AreAlike a b → AreAlike b a
alike_back [] [] h = tt
alike_back [] (q ∷ b) h = h
alike_back (p ∷ a) [] h = h
alike_back (p ∷ a) (q ∷ b) h = (sym h.0, line_back p.line q.line h.1, alike_back a b h.2)

pub alike_spelled : (a b : List Piece) → AreAlike a b → spellings a ≡ spellings b
alike_spelled [] [] h = refl
alike_spelled [] (q ∷ b) h = absurd h
alike_spelled (p ∷ a) [] h = absurd h
alike_spelled (p ∷ a) (q ∷ b) h = let rest = alike_spelled a b h.2 in λ i. h.0 i ∷ rest i

-- in two parts each
pub regroup : (a b x c d y : List Piece) → AreAlike ((a ++ b) ++ x) ((c ++ d) ++ y) → AreAlike (a ++ (b ++ x)) (c ++ (d ++ y))
regroup a b x c d y h = subst (λ (p : List Piece). AreAlike p (c ++ (d ++ y))) (append_assoc a b x) (subst (λ (q : List Piece). AreAlike ((a ++ b) ++ x) q) (append_assoc c d y) h)

pub behind_pieces : (e : Pieces) (x y : List Piece) → AreAlike (all_plain e ++ x) (all_plain e ++ y) → AreAlike x y
behind_pieces [] x y h = h
behind_pieces (s ∷ e) x y h = behind_pieces e x y h.2

-- an expression, and what ends it
module _ (L : Limits) (names : Spelling) where
  pub one_expression_before : (t u : Term) (e g : Pieces) (x y : List Piece) → IsExpression L names t e → IsExpression L names u g → Ends (spellings x) → Ends (spellings y) → AreAlike (all_plain e ++ x) (all_plain g ++ y)
      → (t ≡ u) × AreAlike x y
  one_expression_before t u e g x y is also ex ey h =
      let split : (f : Pieces) (z : List Piece) → spellings (all_plain f ++ z) ≡ f ++ spellings z = λ f z. spellings-append (all_plain f) z ∙ ap (λ (ps : Pieces). ps ++ spellings z) (spellings-plain f) in
      let one = one_expression L names t u e g (spellings x) (spellings y) is.spelt also.spelt (sym (split e x) ∙ alike_spelled (all_plain e ++ x) (all_plain g ++ y) h ∙ split g y) ex ey in
      (one.0, behind_pieces e x y (subst (λ (ps : Pieces). AreAlike (all_plain e ++ x) (all_plain ps ++ y)) (sym one.1) h))

  -- up to its semicolon
  pub one_ended : (t u : Term) (e g : Pieces) (x y : List Piece) → IsExpression L names t e → IsExpression L names u g
      → AreAlike ((all_plain e ++ plain (codes ";") ∷ []) ++ x) ((all_plain g ++ plain (codes ";") ∷ []) ++ y) → (t ≡ u) × AreAlike x y
  one_ended t u e g x y is also h =
      let one = one_expression_before t u e g (plain (codes ";") ∷ x) (plain (codes ";") ∷ y) is also refl refl (regroup (all_plain e) (plain (codes ";") ∷ []) x (all_plain g) (plain (codes ";") ∷ []) y h) in
      (one.0, one.1.2)

  -- up to a brace
  pub one_tested : (t u : Term) (e g : Pieces) (a b x y : List Piece) → IsExpression L names t e → IsExpression L names u g
      → AreAlike ((all_plain e ++ plain (codes "{") ∷ a) ++ x) ((all_plain g ++ plain (codes "{") ∷ b) ++ y) → (t ≡ u) × AreAlike (plain (codes "{") ∷ (a ++ x)) (plain (codes "{") ∷ (b ++ y))
  one_tested t u e g a b x y is also h =
      one_expression_before t u e g (plain (codes "{") ∷ (a ++ x)) (plain (codes "{") ∷ (b ++ y)) is also refl refl (regroup (all_plain e) (plain (codes "{") ∷ a) x (all_plain g) (plain (codes "{") ∷ b) y h)
