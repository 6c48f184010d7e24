-- A number that is printed is read as that number.
use Rattle.std.proofs.Common.{◌≡◌, ℕ, ◌<◌, ◌≤◌, ◌^◌, false, length, refl, arith, Ok}
use Rattle.std.specs.Prelude.{nat_lt, decimal}
use Rattle.std.specs.Str.Parse.{AllDigits}
use Rattle.std.proofs.lemmas.Bool.{lt-ltb}
use Rattle.std.proofs.lemmas.Bool.Decides.{nat_tests}
use Rattle.std.proofs.lemmas.Str.Parse.{numerals_by_value, tells_digits}
use Rattle.std.proofs.lemmas.Fmt.{decimal_nonempty, digits_value-decimal}
use Rattle.sj_log.specs.Fields.{number_read}
use Rattle.sj_grammar.proofs.DecimalLemmas.{canonical, printed_digits}

not_below : (m n : ℕ) → m ≤ n → nat_lt n m ≡ false
not_below m n h = grind (arith, nat_tests)

pub number_back : (least most n : ℕ) → least ≤ n → n ≤ most → most < 2 ^ 64 → number_read least most (decimal n) ≡ Ok n
unfolding number_read
number_back least most n lo hi fit =
    let small : n < 2 ^ 64 = omega arith in
    rw (lt-ltb 0 (length (decimal n)) (decimal_nonempty n small))
    (rw (printed_digits n small)
    (rw (canonical n small)
    (rw (digits_value-decimal (numerals_by_value (AllDigits 10) tells_digits) n small)
    (rw (not_below least n lo) (rw (not_below n most hi) refl)))))
