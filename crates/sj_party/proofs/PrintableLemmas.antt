-- Expressions whose canonical text is in the grammar: those that the grammar gives.
use Rattle.std.proofs.Common.{◌≡◌, ℕ, zero, suc, ℤ, ◌<◌, Bool, true, false, List, [], ◌∷◌, ◌++◌, refl, ap, sym, subst, arith}
use Rattle.std.specs.Prelude.{pos, negsuc, neg_ℤ, codes, if◌then◌else◌}
use Rattle.std.specs.Fmt.{decimal}
use Rattle.std.specs.Str.Parse.{digits_value}
use Rattle.sj_lang.specs.declared.party.Op.{Op}
use Rattle.sj_lang.specs.declared.party.Op.TheVariants.{Add, Sub, Mul, Less, LessEq, Equal}
use Rattle.sj_lang.specs.Term.{Term, int, boolean, text, var, not, two}
use Rattle.sj_lang.specs.Limits.{Limits}
use Rattle.sj_grammar.specs.Lexis.{most}
use Rattle.sj_grammar.specs.Literals.{is_number, quoted}
use Rattle.sj_grammar.specs.Tables.{Spelling, IsNamed, IsLiteral}
use Rattle.sj_grammar.specs.Positions.{Pieces}
use Rattle.sj_grammar.specs.Expressions.{Level, whole, sum, term, factor, Spelt}
use Rattle.sj_grammar.specs.Expressions as spelt
use Rattle.sj_expr.specs.Signs.{op_piece}
use Rattle.sj_expr.proofs.TokenLemmas.{number_no_text, number_no_name}
use Rattle.sj_party.specs.CanonicalExpression.{left_of, right_of, needs_parens, boolean_text}
use Rattle.sj_expr.proofs.NumberLemmas.{number_written}
use Rattle.sj_party.proofs.AddAlike.{AddAlike, alike_then, alike_less}

-- the pieces of the canonical text
abbrev pub int_pieces : ℤ → Pieces
int_pieces (pos n) = decimal n ∷ []
int_pieces (negsuc n) = codes "-" ∷ decimal (suc n) ∷ []

abbrev pub enclosed_pieces : Bool → Pieces → Pieces
enclosed_pieces needed ps = if needed then codes "(" ∷ (ps ++ codes ")" ∷ []) else ps

abbrev pub expression_pieces : Spelling → Level → Term → Pieces
expression_pieces names l (int z) = int_pieces z
expression_pieces names l (boolean b) = boolean_text b ∷ []
expression_pieces names l (text n) = quoted (names.text n) ∷ []
expression_pieces names l (var n) = names.word n ∷ []
expression_pieces names l (not t) = codes "not" ∷ expression_pieces names factor t
expression_pieces names l (two op t u) = enclosed_pieces (needs_parens l op) (expression_pieces names (left_of op) t ++ op_piece op ∷ expression_pieces names (right_of op) u)

-- a number whose digits are a token
pub record IsWritten (n : ℕ) : Type 0 where
  pub number : is_number (decimal n) ≡ true
  pub value : digits_value 10 (decimal n) ≡ n

abbrev pub IsPrintableInt : ℤ → Type 0
IsPrintableInt (pos n) = IsWritten n × (n < most)
IsPrintableInt (negsuc n) = IsWritten (suc n)

written : (ds : List ℕ) → is_number ds ≡ true → IsWritten (digits_value 10 ds)
written ds t = let same = number_written ds t in record { number = subst (λ (s : List ℕ). is_number s ≡ true) (sym same) t; value = ap (digits_value 10) same }

minus_printable : (v : ℕ) → IsWritten v → IsPrintableInt (neg_ℤ (pos v))
minus_printable zero w = (w, omega arith)
minus_printable (suc n) w = w

-- numbers add no name and no text
written_adds : (n : ℕ) → IsWritten n → AddAlike (decimal n ∷ []) []
written_adds n w = alike_less (decimal n) [] (number_no_name (decimal n) w.number) (number_no_text (decimal n) w.number)

pub int_adds : (z : ℤ) → IsPrintableInt z → AddAlike (int_pieces z) []
int_adds (pos n) h = written_adds n h.0
int_adds (negsuc n) h = alike_then (codes "-" ∷ decimal (suc n) ∷ []) (decimal (suc n) ∷ []) [] (alike_less (codes "-") (decimal (suc n) ∷ []) refl refl) (written_adds (suc n) h)

-- inside parentheses, where there are some
abbrev pub inside : Bool → ℕ → ℕ
inside b o = if b then suc o else o

module _ (L : Limits) (names : Spelling) where
  abbrev pub MayNest : Bool → ℕ → Type 0
  MayNest true o = o < L.nesting
  MayNest false o = Unit {0}

  abbrev pub IsPrintable : Level → ℕ → Term → Type 0
  IsPrintable l o (int z) = IsPrintableInt z
  IsPrintable l o (boolean b) = Unit {0}
  IsPrintable l o (text n) = IsLiteral L names.text n
  IsPrintable l o (var n) = IsNamed L names.word n
  IsPrintable l o (not t) = (o < L.nesting) × IsPrintable factor (suc o) t
  IsPrintable l o (two op t u) = MayNest (needs_parens l op) o × IsPrintable (left_of op) (inside (needs_parens l op) o) t × IsPrintable (right_of op) (inside (needs_parens l op) o) u

  -- one parenthesis less outside
  lower_two : (b : Bool) (o : ℕ) (P Q : ℕ → Type 0) → ((k : ℕ) → P (suc k) → P k) → ((k : ℕ) → Q (suc k) → Q k) → MayNest b (suc o) × P (inside b (suc o)) × Q (inside b (suc o)) → MayNest b o × P (inside b o) × Q (inside b o)
  lower_two true o P Q p q h = (omega (arith, h.0), p (suc o) h.1, q (suc o) h.2)
  lower_two false o P Q p q h = (tt, p o h.1, q o h.2)

  lower : (l : Level) (o : ℕ) (t : Term) → IsPrintable l (suc o) t → IsPrintable l o t
  lower l o (int z) h = h
  lower l o (boolean b) h = h
  lower l o (text n) h = h
  lower l o (var n) h = h
  lower l o (not t) h = (omega (arith, h.0), lower factor (suc o) t h.1)
  lower l o (two op t u) h = lower_two (needs_parens l op) o (λ k. IsPrintable (left_of op) k t) (λ k. IsPrintable (right_of op) k u) (λ k x. lower (left_of op) k t x) (λ k x. lower (right_of op) k u x) h

  -- in parentheses, which a looser level may leave out
  freed : (l : Level) (o : ℕ) (t : Term) → o < L.nesting → IsPrintable whole (suc o) t → IsPrintable l o t
  freed l o (int z) room h = h
  freed l o (boolean b) room h = h
  freed l o (text n) room h = h
  freed l o (var n) room h = h
  freed l o (not t) room h = (room, lower factor (suc o) t h.1)
  freed l o (two op t u) room h = by_test (needs_parens l op)
    where
      by_test : (b : Bool) → MayNest b o × IsPrintable (left_of op) (inside b o) t × IsPrintable (right_of op) (inside b o) u
      by_test true = (room, h.1, h.2)
      by_test false = (tt, lower (left_of op) o t h.1, lower (right_of op) o u h.2)

  -- at a level that wants fewer parentheses
  loosen : (l m : Level) (o : ℕ) (t : Term) → ((op : Op) → needs_parens m op ≡ true → needs_parens l op ≡ true) → IsPrintable l o t → IsPrintable m o t
  loosen l m o (int z) less h = h
  loosen l m o (boolean b) less h = h
  loosen l m o (text n) less h = h
  loosen l m o (var n) less h = h
  loosen l m o (not t) less h = h
  loosen l m o (two op t u) less h = by_tests (needs_parens l op) (needs_parens m op) (less op) h
    where
      by_tests : (b c : Bool) → (c ≡ true → b ≡ true) → MayNest b o × IsPrintable (left_of op) (inside b o) t × IsPrintable (right_of op) (inside b o) u
          → MayNest c o × IsPrintable (left_of op) (inside c o) t × IsPrintable (right_of op) (inside c o) u
      by_tests true true e k = k
      by_tests true false e k = (tt, lower (left_of op) o t k.1, lower (right_of op) o u k.2)
      by_tests false true e k = let no : false ≡ true = e refl in cc
      by_tests false false e k = k

  sum_less : (op : Op) → needs_parens sum op ≡ true → needs_parens term op ≡ true
  sum_less Add e = refl
  sum_less Sub e = refl
  sum_less Mul e = e
  sum_less Less e = refl
  sum_less LessEq e = refl
  sum_less Equal e = refl

  pub printable : {l : Level} {o : ℕ} {t : Term} {ps : Pieces} → Spelt L names l o t ps → IsPrintable l o t
  printable (spelt.of_number {ds = ds} t small) = (written ds t, small)
  printable (spelt.of_minus {ds = ds} t) = minus_printable (digits_value 10 ds) (written ds t)
  printable spelt.of_true = tt
  printable spelt.of_false = tt
  printable (spelt.of_text h) = h
  printable (spelt.of_name h) = h
  printable (spelt.of_not {o = o} {t = t} {a = a} room h) = (room, printable h)
  printable (spelt.of_parens {o = o} {t = t} {a = a} room h) = freed factor o t room (printable h)
  printable (spelt.of_factor {o = o} {t = t} {a = a} h) = loosen factor term o t (λ op e. refl) (printable h)
  printable (spelt.of_product {o = o} {t = t} {u = u} {a = a} {b = b} h k) = (tt, printable h, printable k)
  printable (spelt.of_term {o = o} {t = t} {a = a} h) = loosen term sum o t sum_less (printable h)
  printable (spelt.of_addition {o = o} {t = t} {u = u} {a = a} {b = b} h k) = (tt, printable h, printable k)
  printable (spelt.of_difference {o = o} {t = t} {u = u} {a = a} {b = b} h k) = (tt, printable h, printable k)
  printable (spelt.of_sum {o = o} {t = t} {a = a} h) = loosen sum whole o t (λ op e. let no : ⊥ = cc in absurd no) (printable h)
  printable (spelt.of_less {o = o} {t = t} {u = u} {a = a} {b = b} h k) = (tt, printable h, printable k)
  printable (spelt.of_less_eq {o = o} {t = t} {u = u} {a = a} {b = b} h k) = (tt, printable h, printable k)
  printable (spelt.of_equal {o = o} {t = t} {u = u} {a = a} {b = b} h k) = (tt, printable h, printable k)
