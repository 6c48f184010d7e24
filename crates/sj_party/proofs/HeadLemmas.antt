-- The heads of statements, after their keyword.
use Rattle.std.proofs.Common.{ℕ, List, [], ◌∷◌, ◌++◌, refl}
use Rattle.std.specs.Prelude.{codes}
use Rattle.sj_lang.specs.declared.party.Scalar.{Scalar}
use Rattle.sj_lang.specs.declared.party.Scalar.TheVariants as scalars
use Rattle.sj_lang.specs.Term.{Term}
use Rattle.sj_grammar.specs.declared.tokens.What.TheVariants.{Symbol}
use Rattle.sj_lang.specs.Limits.{Limits}
use Rattle.sj_grammar.specs.Tables.{Spelling, IsNamed}
use Rattle.sj_grammar.specs.Positions.{Pieces, Piece, plain, all_plain}
use Rattle.sj_grammar.specs.Expressions.{IsExpression, whole}
use Rattle.sj_grammar.specs.Statements.{scalar_piece}
use Rattle.sj_grammar.proofs.LexingLemmas.{Any, NoWordByte, NoEqual}
use Rattle.sj_party.specs.CanonicalExpression.{expression_text}
use Rattle.sj_party.specs.CanonicalCode.{spaces}
use Rattle.sj_party.proofs.PrintableLemmas.{expression_pieces}
use Rattle.sj_party.proofs.PieceTextLemmas.{HasLines, lines_append, blank_lines, one_line}
use Rattle.sj_party.proofs.ExpressionTextLemmas.{word_lines, spaced_lines}
use Rattle.sj_party.proofs.LineLemmas.{spaces_blank, expression_has, name_has}

-- a text with a semicolon after it
pub ended : (t : List ℕ) (ps : List Piece) → HasLines NoWordByte t ps → HasLines Any (t ++ codes ";") (ps ++ plain (codes ";") ∷ [])
ended t ps h = lines_append NoWordByte Any t (codes ";") ps (plain (codes ";") ∷ []) h (one_line Any (codes ";") (codes ";") Symbol (λ rest free. refl)) (λ rest free. refl)

-- a reserved word after a space
pub reserved_lines : (w : List ℕ) → HasLines NoWordByte w (plain w ∷ []) → HasLines NoWordByte (32 ∷ w) (plain w ∷ [])
reserved_lines w h = spaced_lines NoWordByte w (plain w ∷ []) h

-- the braces of a block
pub open_lines : HasLines Any (codes " {\n") (plain (codes "{") ∷ [])
open_lines = lines_append Any Any (codes " {") (codes "\n") (plain (codes "{") ∷ []) [] (one_line Any (codes " {") (codes "{") Symbol (λ rest free. refl)) (blank_lines Any (codes "\n") refl) (λ rest free. tt)

pub close_lines : (n : ℕ) → HasLines Any (spaces n ++ codes "}") (plain (codes "}") ∷ [])
close_lines n = lines_append Any Any (spaces n) (codes "}") [] (plain (codes "}") ∷ []) (blank_lines Any (spaces n) (spaces_blank n)) (one_line Any (codes "}") (codes "}") Symbol (λ rest free. refl)) (λ rest free. tt)

scalar_lines : (k : Scalar) → HasLines NoWordByte (32 ∷ scalar_piece k) (plain (scalar_piece k) ∷ [])
scalar_lines scalars.Int = reserved_lines (codes "int") (word_lines (codes "int") refl)
scalar_lines scalars.Boolean = reserved_lines (codes "boolean") (word_lines (codes "boolean") refl)
scalar_lines scalars.Text = reserved_lines (codes "String") (word_lines (codes "String") refl)

module _ (L : Limits) (names : Spelling) where
  -- two names, and a name, a mark and an expression
  abbrev pub pair_tail : ℕ → ℕ → List ℕ
  pair_tail x y = (32 ∷ names.word x) ++ (32 ∷ names.word y)

  abbrev pub given_tail : ℕ → List ℕ → Term → List ℕ
  given_tail x mark t = (32 ∷ names.word x) ++ (mark ++ expression_text names whole t)

  pub pair_has : (x y : ℕ) → IsNamed L names.word x → IsNamed L names.word y → HasLines NoWordByte (pair_tail x y) (plain (names.word x) ∷ plain (names.word y) ∷ [])
  pair_has x y h k = lines_append NoWordByte NoWordByte (32 ∷ names.word x) (32 ∷ names.word y) (plain (names.word x) ∷ []) (plain (names.word y) ∷ []) (name_has L names x h) (name_has L names y k) (λ rest free. refl)

  pub behind_space : (t : Term) (e : Pieces) → IsExpression L names t e → HasLines NoWordByte (32 ∷ expression_text names whole t) (all_plain (expression_pieces names whole t))
  behind_space t e h = spaced_lines NoWordByte (expression_text names whole t) (all_plain (expression_pieces names whole t)) (expression_has L names t e h)

  pub given_has : (x : ℕ) (t : Term) (e : Pieces) → IsNamed L names.word x → IsExpression L names t e → HasLines NoWordByte (given_tail x (codes " ") t) (plain (names.word x) ∷ all_plain (expression_pieces names whole t))
  given_has x t e h k =
      lines_append NoWordByte NoWordByte (32 ∷ names.word x) (32 ∷ expression_text names whole t) (plain (names.word x) ∷ []) (all_plain (expression_pieces names whole t)) (name_has L names x h) (behind_space t e k) (λ rest free. refl)

  pub let_has : (x : ℕ) (t : Term) (e : Pieces) → IsNamed L names.word x → IsExpression L names t e → HasLines NoWordByte (given_tail x (codes " = ") t) (plain (names.word x) ∷ plain (codes "=") ∷ all_plain (expression_pieces names whole t))
  let_has x t e h k =
      let marked = lines_append NoEqual NoWordByte (codes " =") (32 ∷ expression_text names whole t) (plain (codes "=") ∷ []) (all_plain (expression_pieces names whole t)) (one_line NoEqual (codes " =") (codes "=") Symbol (λ rest free. rw free refl)) (behind_space t e k) (λ rest free. refl) in
      lines_append NoWordByte NoWordByte (32 ∷ names.word x) (codes " = " ++ expression_text names whole t) (plain (names.word x) ∷ []) (plain (codes "=") ∷ all_plain (expression_pieces names whole t)) (name_has L names x h) marked (λ rest free. refl)

  pub take_has : (x y : ℕ) (k : Scalar) → IsNamed L names.word x → IsNamed L names.word y
      → HasLines Any (pair_tail x y ++ (codes " " ++ (scalar_piece k ++ codes ";"))) (plain (names.word x) ∷ plain (names.word y) ∷ plain (scalar_piece k) ∷ plain (codes ";") ∷ [])
  take_has x y k h g =
      lines_append NoWordByte Any (pair_tail x y) (codes " " ++ (scalar_piece k ++ codes ";")) (plain (names.word x) ∷ plain (names.word y) ∷ []) (plain (scalar_piece k) ∷ plain (codes ";") ∷ []) (pair_has x y h g)
      (ended (32 ∷ scalar_piece k) (plain (scalar_piece k) ∷ []) (scalar_lines k)) (λ rest free. refl)

  -- two names, a word and a third name
  pub three_has : (w : List ℕ) (x y z : ℕ) → HasLines NoWordByte w (plain w ∷ []) → IsNamed L names.word x → IsNamed L names.word y → IsNamed L names.word z
      → HasLines Any (pair_tail x y ++ (((32 ∷ w) ++ (32 ∷ names.word z)) ++ codes ";")) (plain (names.word x) ∷ plain (names.word y) ∷ plain w ∷ plain (names.word z) ∷ plain (codes ";") ∷ [])
  three_has w x y z word h k g =
      let third = lines_append NoWordByte NoWordByte (32 ∷ w) (32 ∷ names.word z) (plain w ∷ []) (plain (names.word z) ∷ []) (reserved_lines w word) (name_has L names z g) (λ rest free. refl) in
      lines_append NoWordByte Any (pair_tail x y) (((32 ∷ w) ++ (32 ∷ names.word z)) ++ codes ";") (plain (names.word x) ∷ plain (names.word y) ∷ []) (plain w ∷ plain (names.word z) ∷ plain (codes ";") ∷ []) (pair_has x y h k)
      (ended ((32 ∷ w) ++ (32 ∷ names.word z)) (plain w ∷ plain (names.word z) ∷ []) third) (λ rest free. refl)
