-- The canonical text of an expression has its canonical pieces.
use Rattle.std.proofs.Common.{◌≡◌, ℕ, suc, ℤ, Bool, true, false, List, [], ◌∷◌, ◌++◌, refl, ap, sym, subst}
use Rattle.std.specs.Prelude.{pos, negsuc, codes}
use Rattle.std.specs.Fmt.{decimal, signed_decimal}
use Rattle.std.specs.Str.Parse.{digits_value}
use Rattle.sj_lang.specs.declared.party.Op.{Op}
use Rattle.sj_lang.specs.declared.party.Op.TheVariants.{Add, Sub, Mul, Less, LessEq, Equal}
use Rattle.sj_lang.specs.Term.{Term, int, boolean, text, var, not, two}
use Rattle.sj_grammar.specs.declared.tokens.What.TheVariants.{Word, Number, Text, Symbol}
use Rattle.sj_lang.specs.Limits.{Limits}
use Rattle.sj_grammar.specs.Names.{is_word}
use Rattle.sj_grammar.specs.Literals.{quoted}
use Rattle.sj_grammar.specs.Tables.{Spelling}
use Rattle.sj_grammar.specs.Positions.{Pieces, Piece, plain, all_plain}
use Rattle.sj_grammar.specs.Expressions.{Level, factor}
use Rattle.sj_grammar.proofs.LexingLemmas.{Any, NoWordByte, NoEqual, word_next, name_is_word}
use Rattle.sj_expr.specs.Signs.{op_piece}
use Rattle.sj_party.specs.CanonicalExpression.{left_of, right_of, needs_parens, enclosed, spaced_op, boolean_text, expression_text}
use Rattle.sj_party.proofs.TokenTextLemmas.{number_next, text_next}
use Rattle.sj_party.proofs.PrintableLemmas.{int_pieces, enclosed_pieces, expression_pieces, IsWritten, IsPrintableInt, IsPrintable, inside}
use Rattle.sj_party.proofs.PieceTextLemmas.{HasLines, lines_append, blank_lines, one_line}

pub plain_append : (a b : Pieces) → all_plain (a ++ b) ≡ all_plain a ++ all_plain b
plain_append [] b = refl
plain_append (s ∷ a) b = ap (λ ps. plain s ∷ ps) (plain_append a b)

pub word_lines : (w : List ℕ) → is_word w ≡ true → HasLines NoWordByte w (plain w ∷ [])
word_lines w h = one_line NoWordByte w w Word (λ rest free. word_next w rest h free)

-- the same after a space
pub spaced_lines : (Behind : List ℕ → Type 0) (t : List ℕ) (ps : List Piece) → HasLines Behind t ps → HasLines Behind (32 ∷ t) ps
spaced_lines Behind t ps h = lines_append Any Behind (codes " ") t [] ps (blank_lines Any (codes " ") refl) h (λ rest free. tt)

written_lines : (n : ℕ) → IsWritten n → HasLines NoWordByte (decimal n) (plain (decimal n) ∷ [])
written_lines n w = one_line NoWordByte (decimal n) (decimal n) (Number (digits_value 10 (decimal n))) (λ rest free. number_next (decimal n) rest w.number free)

int_lines : (z : ℤ) → IsPrintableInt z → HasLines NoWordByte (signed_decimal z) (all_plain (int_pieces z))
int_lines (pos n) h = written_lines n h.0
int_lines (negsuc n) h =
    lines_append Any NoWordByte (codes "-") (decimal (suc n)) (plain (codes "-") ∷ []) (plain (decimal (suc n)) ∷ []) (one_line Any (codes "-") (codes "-") Symbol (λ rest free. refl)) (written_lines (suc n) h) (λ rest free. tt)

boolean_lines : (b : Bool) → HasLines NoWordByte (boolean_text b) (plain (boolean_text b) ∷ [])
boolean_lines true = word_lines (codes "true") refl
boolean_lines false = word_lines (codes "false") refl

-- an operator between spaces, and what stands after it
sign_lines : (op : Op) (t : List ℕ) (ps : List Piece) → HasLines NoWordByte t ps → HasLines NoWordByte (spaced_op op ++ t) (plain (op_piece op) ∷ ps)
sign_lines Add t ps h = lines_append Any NoWordByte (codes " +") (32 ∷ t) (plain (codes "+") ∷ []) ps (one_line Any (codes " +") (codes "+") Symbol (λ rest free. refl)) (spaced_lines NoWordByte t ps h) (λ rest free. tt)
sign_lines Sub t ps h = lines_append Any NoWordByte (codes " -") (32 ∷ t) (plain (codes "-") ∷ []) ps (one_line Any (codes " -") (codes "-") Symbol (λ rest free. refl)) (spaced_lines NoWordByte t ps h) (λ rest free. tt)
sign_lines Mul t ps h = lines_append Any NoWordByte (codes " *") (32 ∷ t) (plain (codes "*") ∷ []) ps (one_line Any (codes " *") (codes "*") Symbol (λ rest free. refl)) (spaced_lines NoWordByte t ps h) (λ rest free. tt)
sign_lines Less t ps h = lines_append NoEqual NoWordByte (codes " <") (32 ∷ t) (plain (codes "<") ∷ []) ps (one_line NoEqual (codes " <") (codes "<") Symbol (λ rest free. rw free refl)) (spaced_lines NoWordByte t ps h) (λ rest free. refl)
sign_lines LessEq t ps h = lines_append Any NoWordByte (codes " <=") (32 ∷ t) (plain (codes "<=") ∷ []) ps (one_line Any (codes " <=") (codes "<=") Symbol (λ rest free. refl)) (spaced_lines NoWordByte t ps h) (λ rest free. tt)
sign_lines Equal t ps h = lines_append Any NoWordByte (codes " ==") (32 ∷ t) (plain (codes "==") ∷ []) ps (one_line Any (codes " ==") (codes "==") Symbol (λ rest free. refl)) (spaced_lines NoWordByte t ps h) (λ rest free. tt)

sign_free : (op : Op) (t rest : List ℕ) → NoWordByte ((spaced_op op ++ t) ++ rest)
sign_free Add t rest = refl
sign_free Sub t rest = refl
sign_free Mul t rest = refl
sign_free Less t rest = refl
sign_free LessEq t rest = refl
sign_free Equal t rest = refl

two_lines : (op : Op) (t u : List ℕ) (a b : Pieces) → HasLines NoWordByte t (all_plain a) → HasLines NoWordByte u (all_plain b) → HasLines NoWordByte (t ++ (spaced_op op ++ u)) (all_plain (a ++ op_piece op ∷ b))
two_lines op t u a b h k =
    subst (λ (ps : List Piece). HasLines NoWordByte (t ++ (spaced_op op ++ u)) ps) (sym (plain_append a (op_piece op ∷ b)))
    (lines_append NoWordByte NoWordByte t (spaced_op op ++ u) (all_plain a) (plain (op_piece op) ∷ all_plain b) h (sign_lines op u (all_plain b) k) (λ rest free. sign_free op u rest))

enclosed_lines : (x : Bool) (t : List ℕ) (a : Pieces) → HasLines NoWordByte t (all_plain a) → HasLines NoWordByte (enclosed x t) (all_plain (enclosed_pieces x a))
enclosed_lines false t a h = h
enclosed_lines true t a h =
    let closed = lines_append NoWordByte NoWordByte t (codes ")") (all_plain a) (plain (codes ")") ∷ []) h (one_line NoWordByte (codes ")") (codes ")") Symbol (λ rest free. refl)) (λ rest free. refl) in
    let all = subst (λ (ps : List Piece). HasLines NoWordByte (t ++ codes ")") ps) (sym (plain_append a (codes ")" ∷ []))) closed in
    lines_append Any NoWordByte (codes "(") (t ++ codes ")") (plain (codes "(") ∷ []) (all_plain (a ++ codes ")" ∷ [])) (one_line Any (codes "(") (codes "(") Symbol (λ rest free. refl)) all (λ rest free. tt)

module _ (L : Limits) (names : Spelling) where
  pub expression_lines : (l : Level) (o : ℕ) (t : Term) → IsPrintable L names l o t → HasLines NoWordByte (expression_text names l t) (all_plain (expression_pieces names l t))
  expression_lines l o (int z) h = int_lines z h
  expression_lines l o (boolean b) h = boolean_lines b
  expression_lines l o (text n) h = one_line NoWordByte (quoted (names.text n)) (quoted (names.text n)) Text (λ rest free. text_next (names.text n) rest h.printable)
  expression_lines l o (var n) h = word_lines (names.word n) (name_is_word (names.word n) h.name)
  expression_lines l o (not t) h =
      lines_append NoWordByte NoWordByte (codes "not") (32 ∷ expression_text names factor t) (plain (codes "not") ∷ []) (all_plain (expression_pieces names factor t)) (word_lines (codes "not") refl)
      (spaced_lines NoWordByte (expression_text names factor t) (all_plain (expression_pieces names factor t)) (expression_lines factor (suc o) t h.1)) (λ rest free. refl)
  expression_lines l o (two op t u) h =
      let x = needs_parens l op in
      let a = expression_pieces names (left_of op) t in
      let b = expression_pieces names (right_of op) u in
      enclosed_lines x (expression_text names (left_of op) t ++ (spaced_op op ++ expression_text names (right_of op) u)) (a ++ op_piece op ∷ b)
      (two_lines op (expression_text names (left_of op) t) (expression_text names (right_of op) u) a b (expression_lines (left_of op) (inside x o) t h.1) (expression_lines (right_of op) (inside x o) u h.2))
