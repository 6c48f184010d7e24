-- What the grammar gives names only what the file has.
use Rattle.std.proofs.Common.{ℕ, ◌≤◌, IsTrue, pos, List, [], ◌∷◌, ◌++◌, arith}
use Rattle.std.specs.Prelude.{neg_ℤ, codes, nat_lt, not, zero, suc, length}
use Rattle.std.specs.List.{AllByRecursion, list_all}
use Rattle.std.specs.Str.Parse.{digits_value}
use Rattle.std.proofs.lemmas.Bool.{and_parts, leb-true}
use Rattle.sj_lang.specs.Limits.{Limits}
use Rattle.sj_lang.specs.FileAt.{FileAt}
use Rattle.sj_lang.specs.Term.{Term}
use Rattle.sj_lang.specs.Code.{Code, StmtAt, Branches, stmt_then, at}
use Rattle.sj_grammar.specs.Bytes.{is_digit}
use Rattle.sj_grammar.specs.Lexis.{has_leading_zero}
use Rattle.sj_grammar.specs.Literals.{is_number, quoted}
use Rattle.sj_grammar.specs.Tables.{Spelling, IsNamed, IsLiteral}
use Rattle.sj_grammar.specs.Positions.{Pieces, Piece, plain, all_plain}
use Rattle.sj_grammar.specs.Expressions.{Level, Spelt, IsExpression}
use Rattle.sj_grammar.specs.Expressions as level
use Rattle.sj_grammar.specs.Statements.{IsCode, IsStatement, IsBlock, AreArms}
use Rattle.sj_grammar.specs.Statements as code
use Rattle.sj_log.specs.Legible.{IsInt, HasWord, HasText}
use Rattle.sj_legible_laws.proofs.CodeParts.{TermTold, CodeTold, DeedTold, ArmsTold}

-- what holds of all holds of the former and of the latter
pub all_apart : {X : Type 0} → (P : X → Type 0) (xs ys : List X) → AllByRecursion P (xs ++ ys) → AllByRecursion P xs × AllByRecursion P ys
all_apart P [] ys h = (tt, h)
all_apart P (x ∷ xs) ys h = let k = all_apart P xs ys h.1 in ((h.0, k.0), k.1)

-- a number token is at most 2^63
number_most : (ds : List ℕ) → IsTrue (is_number ds) → digits_value 10 ds ≤ 9223372036854775808
number_most ds h = leb-true (digits_value 10 ds) 9223372036854775808 (and_parts (not (has_leading_zero ds)) _ (and_parts (list_all is_digit ds) _ (and_parts (nat_lt 0 (length ds)) _ h).1).1).1

minus_fits : (n : ℕ) → n ≤ 9223372036854775808 → IsInt (neg_ℤ (pos n))
minus_fits zero le = omega arith
minus_fits (suc n) le = omega (arith, le)

-- what is known of each piece: where it is a text, the file has it; each name that is first is a word of the file
module _ (file : FileAt) (L : Limits) (names : Spelling) (Kept : List ℕ → Type 0)
    (texts : (n : ℕ) → IsLiteral L names.text n → Kept (quoted (names.text n)) → HasText file n)
    (words : (n : ℕ) → IsNamed L names.word n → HasWord file n) where
  abbrev AllKept : Pieces → Type 0
  AllKept ps = AllByRecursion Kept ps

  abbrev KeptPiece : Piece → Type 0
  KeptPiece p = Kept p.spelled

  abbrev pub PiecesKept : List Piece → Type 0
  PiecesKept ps = AllByRecursion KeptPiece ps

  unplain : (ps : Pieces) → PiecesKept (all_plain ps) → AllKept ps
  unplain [] h = tt
  unplain (p ∷ ps) h = (h.0, unplain ps h.1)

  term_told : (l : Level) (o : ℕ) (t : Term) (ps : Pieces) → Spelt L names l o t ps → AllKept ps → TermTold file t
  term_told _ o _ _ (level.of_number {ds = ds} n small) kept = omega (arith, small)
  term_told _ o _ _ (level.of_minus {ds = ds} n) kept = minus_fits (digits_value 10 ds) (number_most ds n)
  term_told _ o _ _ level.of_true kept = tt
  term_told _ o _ _ level.of_false kept = tt
  term_told _ o _ _ (level.of_text {n = n} is) kept = texts n is kept.0
  term_told _ o _ _ (level.of_name is) kept = tt
  term_told _ o _ _ (level.of_not {t = t} {a = a} lt s) kept = term_told level.factor _ t a s kept.1
  term_told _ o _ _ (level.of_parens {t = t} {a = a} lt s) kept = term_told level.whole _ t a s (all_apart Kept a (codes ")" ∷ []) kept.1).0
  term_told _ o _ _ (level.of_factor {t = t} {a = a} s) kept = term_told level.factor o t a s kept
  term_told _ o _ _ (level.of_product {t = t} {u = u} {a = a} {b = b} s r) kept =
      let k = all_apart Kept a (codes "*" ∷ b) kept in (term_told level.term o t a s k.0, term_told level.factor o u b r k.1.1)
  term_told _ o _ _ (level.of_term {t = t} {a = a} s) kept = term_told level.term o t a s kept
  term_told _ o _ _ (level.of_addition {t = t} {u = u} {a = a} {b = b} s r) kept =
      let k = all_apart Kept a (codes "+" ∷ b) kept in (term_told level.sum o t a s k.0, term_told level.term o u b r k.1.1)
  term_told _ o _ _ (level.of_difference {t = t} {u = u} {a = a} {b = b} s r) kept =
      let k = all_apart Kept a (codes "-" ∷ b) kept in (term_told level.sum o t a s k.0, term_told level.term o u b r k.1.1)
  term_told _ o _ _ (level.of_sum {t = t} {a = a} s) kept = term_told level.sum o t a s kept
  term_told _ o _ _ (level.of_less {t = t} {u = u} {a = a} {b = b} s r) kept =
      let k = all_apart Kept a (codes "<" ∷ b) kept in (term_told level.sum o t a s k.0, term_told level.sum o u b r k.1.1)
  term_told _ o _ _ (level.of_less_eq {t = t} {u = u} {a = a} {b = b} s r) kept =
      let k = all_apart Kept a (codes "<=" ∷ b) kept in (term_told level.sum o t a s k.0, term_told level.sum o u b r k.1.1)
  term_told _ o _ _ (level.of_equal {t = t} {u = u} {a = a} {b = b} s r) kept =
      let k = all_apart Kept a (codes "==" ∷ b) kept in (term_told level.sum o t a s k.0, term_told level.sum o u b r k.1.1)

  abbrev StatementTold : StmtAt → Type 0
  StatementTold (at line deed) = DeedTold file deed

  -- an expression, and what stands after it
  expression_told : (t : Term) (e : Pieces) (rest : List Piece) → IsExpression L names t e → PiecesKept (all_plain e ++ rest) → TermTold file t × PiecesKept rest
  expression_told t e rest is kept = let k = all_apart KeptPiece (all_plain e) rest kept in (term_told level.whole 0 t e is.spelt (unplain e k.0), k.1)

  with_first : (s : StmtAt) (rest : Code) → StatementTold s → CodeTold file rest → CodeTold file (stmt_then s rest)
  with_first (at line deed) rest told later = (told, later)

  mutual
    pub code_told : (o : ℕ) (c : Code) (ps : List Piece) → IsCode L names o c ps → PiecesKept ps → CodeTold file c
    code_told o _ _ code.none kept = tt
    code_told o _ _ (code.one_more {s = s} {rest = rest} {a = a} {b = b} is later) kept =
        let k = all_apart KeptPiece a b kept in with_first s rest (statement_told o s a is k.0) (code_told o rest b later k.1)

    statement_told : (o : ℕ) (s : StmtAt) (ps : List Piece) → IsStatement L names o s ps → PiecesKept ps → StatementTold s
    statement_told o _ _ (code.of_send {t = t} {e = e} x is) kept = (expression_told t e (plain (codes ";") ∷ []) is kept.1.1).0
    statement_told o _ _ (code.of_delegate x y) kept = tt
    statement_told o _ _ (code.of_take x n) kept = tt
    statement_told o _ _ (code.of_take_end x y p) kept = tt
    statement_told o _ _ (code.of_outbranch {m = m} x l) kept = words m l
    statement_told o _ _ (code.of_inbranch {m = m} {code = c} {arms = arms} {a = a} x is) kept = arms_told o _ a is (all_apart KeptPiece a (plain (codes "}") ∷ []) kept.1.1.1).0
    statement_told o _ _ (code.of_outwhile {t = t} {e = e} {body = body} {a = a} x is b) kept = block_told o body a b (expression_told t e a is kept.1.1).1
    statement_told o _ _ (code.of_inwhile {body = body} {a = a} x b) kept = block_told o body a b kept.1.1
    statement_told o _ _ (code.of_relay {body = body} {a = a} x y b) kept = block_told o body a b kept.1.1.1
    statement_told o _ _ (code.of_if {t = t} {e = e} {yes = first} {no = second} {a = a} {b = b} is f s) kept =
        let k = all_apart KeptPiece a (plain (codes "else") ∷ b) (expression_told t e (a ++ plain (codes "else") ∷ b) is kept.1).1 in (block_told o first a f k.0, block_told o second b s k.1.1)
    statement_told o _ _ (code.of_let {t = t} {e = e} n is) kept = (expression_told t e (plain (codes ";") ∷ []) is kept.1.1.1).0
    statement_told o _ _ (code.of_close x) kept = tt
    statement_told o _ _ (code.of_request x p b) kept = tt
    statement_told o _ _ (code.of_accept x p b) kept = tt

    block_told : (o : ℕ) (c : Code) (ps : List Piece) → IsBlock L names o c ps → PiecesKept ps → CodeTold file c
    block_told o _ _ (code.of_code {code = c} {a = a} lt is) kept = code_told _ c a is (all_apart KeptPiece a (plain (codes "}") ∷ []) kept.1).0

    arms_told : (o : ℕ) (arms : Branches) (ps : List Piece) → AreArms L names o arms ps → PiecesKept ps → ArmsTold file arms
    arms_told o _ _ code.no_arm kept = tt
    arms_told o _ _ (code.one_arm {code = c} {arms = arms} {a = a} {b = b} m is later) kept =
        let k = all_apart KeptPiece a b kept.1.1 in (block_told o c a is k.0, arms_told o arms b later k.1)
