-- The digits that a number is printed with:
-- digits alone, and no zero before them that isn't needed.
use Rattle.std.proofs.Common.{◌≡◌, ℕ, zero, suc, ◌<◌, ◌≤◌, ◌^◌, true, false, List, [], ◌∷◌, get_or, refl, arith}
use Rattle.std.specs.Prelude.{◌==◌, decimal}
use Rattle.std.specs.List.{list_all}
use Rattle.std.specs.Str.Parse.{AllDigits}
use Rattle.std.proofs.lemmas.Bool.Decides.{nat_tests}
use Rattle.std.proofs.lemmas.Str.Parse.{numerals_by_value, tells_digits, digit_from_value}
use Rattle.std.proofs.lemmas.Fmt.{decimal_digit, first_decimal, digits_decimal}
use Rattle.sj_grammar.specs.Bytes.{is_digit}
use Rattle.sj_grammar.specs.Lexis.{has_leading_zero}

digit : (c : ℕ) → (48 ≤ c) × (c ≤ 57) → is_digit c ≡ true
digit c h = grind (arith, nat_tests, h.0, h.1)

digits_all : (ds : List ℕ) → AllDigits 10 ds → list_all is_digit ds ≡ true
digits_all [] t = refl
digits_all (c ∷ cs) t = rw (digit c (digit_from_value c t.0)) (digits_all cs t.1)

other_first : (b : ℕ) → 48 < b → (b == 48) ≡ false
other_first b h = grind (arith, nat_tests)

no_zero_first : (ds : List ℕ) → 48 < get_or ds 0 0 → has_leading_zero ds ≡ false
no_zero_first [] h = refl
no_zero_first (b ∷ bs) h = rw (other_first b h) refl

-- what is printed has no needless zero
pub canonical : (n : ℕ) → n < 2 ^ 64 → has_leading_zero (decimal n) ≡ false
canonical zero h = rw (decimal_digit 0 (omega arith)) refl
canonical (suc n) h = no_zero_first (decimal (suc n)) (first_decimal (suc n) (omega arith) h)

-- and is digits alone
pub printed_digits : (n : ℕ) → n < 2 ^ 64 → list_all is_digit (decimal n) ≡ true
printed_digits n h = digits_all (decimal n) (digits_decimal (numerals_by_value (AllDigits 10) tells_digits) n h)
