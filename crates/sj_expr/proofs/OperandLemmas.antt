-- Which tokens are operands.
use Rattle.std.proofs.Common.{◌≡◌, ℕ, ◌≤◌, Bool, true, false, List, length, refl}
use Rattle.std.specs.Prelude.{codes, ◌||◌, ◌&&◌, not}
use Rattle.std.specs.Str.{bytes_eq}
use Rattle.std.proofs.lemmas.Bool.{le-ltb}
use Rattle.sj_lang.specs.Limits.{Limits}
use Rattle.sj_grammar.specs.Names.{is_name, is_reserved}
use Rattle.sj_grammar.specs.Literals.{is_number, is_largest, is_text, quoted}
use Rattle.sj_grammar.specs.ExpressionDues.{is_operand, is_long}
use Rattle.sj_proto.proofs.NameLemmas.{name_no_text}
use Rattle.sj_expr.proofs.TokenLemmas.{number_no_text, number_no_name, name_no_number, inner_quoted}

-- each kind of operand is one
or_first : (x y : Bool) → x ≡ true → (x || y) ≡ true
or_first true y e = refl
or_first false y e = let no : ⊥ = cc in absurd no

pub number_operand : (s : List ℕ) → is_number s ≡ true → is_largest s ≡ false → is_operand s ≡ true
number_operand s t f = rw (t, f) refl

pub text_operand : (s : List ℕ) → is_text s ≡ true → is_operand s ≡ true
text_operand s t = by_test (is_number s && not (is_largest s))
  where
    by_test : (b : Bool) → (b || (is_text s || (is_name s || (bytes_eq s (codes "true") || bytes_eq s (codes "false"))))) ≡ true
    by_test true = refl
    by_test false = rw t refl

pub name_operand : (s : List ℕ) → is_name s ≡ true → is_operand s ≡ true
name_operand s t = rw (name_no_number s t, name_no_text s t, t) refl

pub true_operand : is_operand (codes "true") ≡ true
unfolding is_reserved
true_operand = refl

pub false_operand : is_operand (codes "false") ≡ true
unfolding is_reserved
false_operand = refl

-- and none of these is too long
pub number_short : (L : Limits) (s : List ℕ) → is_number s ≡ true → is_long L s ≡ false
number_short L s t = rw (number_no_text s t, number_no_name s t) refl

pub text_short : (L : Limits) (t : List ℕ) → length t ≤ L.text → is_long L (quoted t) ≡ false
text_short L t h = rw (inner_quoted t, le-ltb L.text (length t) h) (no_part _)
  where
    no_part : (b : Bool) → ((b && false) || false) ≡ false
    no_part true = refl
    no_part false = refl

pub name_short : (L : Limits) (s : List ℕ) → is_name s ≡ true → length s ≤ L.name → is_long L s ≡ false
name_short L s t h = rw (name_no_text s t, t, le-ltb L.name (length s) h) refl

pub true_short : (L : Limits) → is_long L (codes "true") ≡ false
unfolding is_reserved
true_short L = refl

pub false_short : (L : Limits) → is_long L (codes "false") ≡ false
unfolding is_reserved
false_short L = refl

pub minus_no_operand : is_operand (codes "-") ≡ false
minus_no_operand = refl

pub not_no_operand : is_operand (codes "not") ≡ false
unfolding is_reserved
not_no_operand = refl

pub open_no_operand : is_operand (codes "(") ≡ false
open_no_operand = refl

pub true_no_name : is_name (codes "true") ≡ false
unfolding is_reserved
true_no_name = refl

pub false_no_name : is_name (codes "false") ≡ false
unfolding is_reserved
false_no_name = refl

pub not_no_name : is_name (codes "not") ≡ false
unfolding is_reserved
not_no_name = refl
