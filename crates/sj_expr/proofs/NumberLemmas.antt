-- 2^63 is written in one way, and each other number is below it.
use Rattle.std.proofs.Common.{◌≡◌, ℕ, ◌<◌, ◌≤◌, Bool, true, false, Option, Some, None, List, [], ◌∷◌, length, get_or, refl, ap, sym, subst, ◌∙◌, arith, inl, inr}
use Rattle.std.specs.Prelude.{codes, if◌then◌else◌, ◌&&◌, not, nat_le, nat_lt, nat_eq}
use Rattle.std.specs.List.{list_all}
use Rattle.std.specs.Fmt.{decimal}
use Rattle.std.specs.Str.Parse.{AllDigits, digits_value}
use Rattle.std.proofs.lemmas.Bool.{leb-true, ltb-false, cases_order}
use Rattle.std.proofs.lemmas.Bool.Decides.{nat_tests}
use Rattle.std.proofs.lemmas.Str.{digit_value_digit}
use Rattle.std.proofs.lemmas.Str.Parse.{numerals_by_value, tells_digits}
use Rattle.std.proofs.lemmas.Fmt.{decimal-digits_value}
use Rattle.sj_grammar.specs.Bytes.{is_digit}
use Rattle.sj_grammar.specs.Lexis.{most, has_leading_zero}
use Rattle.sj_grammar.specs.Literals.{is_number, is_largest}
use Rattle.sj_expr.proofs.TestLemmas.{and_first, and_second, bytes_are}

digit_is : (c : ℕ) → is_digit c ≡ true → (48 ≤ c) × (c ≤ 57)
digit_is c t = (grind (arith, nat_tests), grind (arith, nat_tests))

all_digits : (s : List ℕ) → list_all is_digit s ≡ true → AllDigits 10 s
all_digits [] t = tt
all_digits (c ∷ cs) t =
    let d = digit_is c (and_first (is_digit c) (list_all is_digit cs) t) in
    (omega (arith, digit_value_digit c d), all_digits cs (and_second (is_digit c) (list_all is_digit cs) t))

-- a number has no zero before its digits
no_zero : (s : List ℕ) → (not (has_leading_zero s)) ≡ true → get_or s 0 0 ≡ 48 → 0 < length s → length s ≡ 1
no_zero [] t e h = absurd (omega arith)
no_zero (b ∷ bs) t e h = by_test (nat_lt 1 (length (b ∷ bs))) refl (subst (λ (x : ℕ). not (nat_eq x 48 && nat_lt 1 (length (b ∷ bs))) ≡ true) e t)
  where
    by_test : (x : Bool) → nat_lt 1 (length (b ∷ bs)) ≡ x → not (true && x) ≡ true → length (b ∷ bs) ≡ 1
    by_test true ex f = let none : ⊥ = cc in absurd none
    by_test false ex f = let few = ltb-false 1 (length (b ∷ bs)) ex in omega arith

-- a number's parts
module _ (s : List ℕ) (t : is_number s ≡ true) where
  rest_is : (list_all is_digit s && (not (has_leading_zero s) && nat_le (digits_value 10 s) most)) ≡ true
  rest_is = and_second (nat_lt 0 (length s)) _ t

  pub digits_are : list_all is_digit s ≡ true
  digits_are = and_first (list_all is_digit s) _ rest_is

  tail_is : (not (has_leading_zero s) && nat_le (digits_value 10 s) most) ≡ true
  tail_is = and_second (list_all is_digit s) _ rest_is

  pub no_zero_before : (not (has_leading_zero s)) ≡ true
  no_zero_before = and_first (not (has_leading_zero s)) _ tail_is

  pub some_digit : 0 < length s
  some_digit = leb-true 1 (length s) (and_first (nat_lt 0 (length s)) _ t)

  pub number_most : digits_value 10 s ≤ most
  number_most = leb-true (digits_value 10 s) most (and_second (not (has_leading_zero s)) _ tail_is)

  pub number_written : decimal (digits_value 10 s) ≡ s
  number_written =
      decimal-digits_value (numerals_by_value (AllDigits 10) tells_digits) s (all_digits s digits_are) some_digit
      (λ e. no_zero s no_zero_before e some_digit) (let most_is = number_most in omega arith)

pub largest_number : is_number (codes "9223372036854775808") ≡ true
largest_number = refl

pub small_number : (s : List ℕ) → is_number s ≡ true → is_largest s ≡ false → digits_value 10 s < most
small_number s t f = elim (cases_order (digits_value 10 s) most) [
  | inl same ↦
      let is : s ≡ codes "9223372036854775808" = sym (number_written s t) ∙ ap decimal same ∙ number_written (codes "9223372036854775808") largest_number in
      let yes : is_largest s ≡ true = bytes_are s (codes "9223372036854775808") is in
      let none : ⊥ = cc in absurd none
  | inr (inl below) ↦ below
  | inr (inr above) ↦ let most_is = number_most s t in absurd (omega arith)
]

-- what the reader of numbers answered
pub some_number : (s : List ℕ) (r : Option ℕ) (v : ℕ) → r ≡ (if is_number s then Some (digits_value 10 s) else None) → r ≡ Some v → (is_number s ≡ true) × (v ≡ digits_value 10 s)
some_number s r v e f = by_test (is_number s) refl (sym f ∙ e)
  where
    by_test : (b : Bool) → is_number s ≡ b → Some v ≡ (if b then Some (digits_value 10 s) else None) → (is_number s ≡ true) × (v ≡ digits_value 10 s)
    by_test true eb h = (eb, cc)
    by_test false eb h = let none : ⊥ = cc in absurd none

pub no_number : (s : List ℕ) (r : Option ℕ) → r ≡ (if is_number s then Some (digits_value 10 s) else None) → ((v : ℕ) → r ≡ Some v → ⊥) → is_number s ≡ false
no_number s r e none = by_test (is_number s) refl e
  where
    by_test : (b : Bool) → is_number s ≡ b → r ≡ (if b then Some (digits_value 10 s) else None) → is_number s ≡ false
    by_test true eb h = absurd (none (digits_value 10 s) h)
    by_test false eb h = eb
