-- What is put is read: the head of a command, and each of its words.
use Rattle.std.proofs.Common.{◌≡◌, ℕ, ◌+◌, ◌<◌, ◌≤◌, ◌^◌, false, List, ◌∷◌, ◌++◌, length, slice_index, Some, refl, arith}
use Rattle.std.specs.Prelude.{nat_lt, decimal}
use Rattle.std.specs.Str.Parse.{AllDigits}
use Rattle.std.proofs.lemmas.Bool.{lt-ltb, le-ltb}
use Rattle.std.proofs.lemmas.Bool.Decides.{nat_tests}
use Rattle.std.proofs.lemmas.Str.Parse.{numerals_by_value, tells_digits}
use Rattle.std.proofs.lemmas.Fmt.{decimal_nonempty, digits_value-decimal}
use Rattle.std.proofs.lemmas.List.{length-append, take_at, get_or-append-add}
use Rattle.std.proofs.Math.Seq.{drop-append-add, get_or-append_seam}
use Rattle.sj_grammar.proofs.DecimalLemmas.{canonical, printed_digits}
use Rattle.sj_resp.specs.Numbers.{number_in}
use Rattle.sj_resp.specs.Token.{Bulk}
use Rattle.sj_resp.specs.Front.{Whole, bytes_of}

-- no test below where there is none
pub not_below : (m n : ℕ) → m ≤ n → nat_lt n m ≡ false
not_below m n h = grind (arith, nat_tests)

-- a number that is put is read as that number
pub number_back : (most n : ℕ) → n ≤ most → most < 2 ^ 64 → number_in 0 most (decimal n) ≡ Some n
unfolding number_in
number_back most n hi fit =
    let small : n < 2 ^ 64 = omega arith in
    let lo : 0 ≤ n = omega arith in
    rw (lt-ltb 0 (length (decimal n)) (decimal_nonempty n small))
    (rw (printed_digits n small)
    (rw (canonical n small)
    (rw (digits_value-decimal (numerals_by_value (AllDigits 10) tells_digits) n small)
    (rw (not_below 0 n lo) (rw (not_below n most hi) refl)))))

-- a bulk with its end of line is read, whatever follows
pub bytes_back : (word rest : List ℕ) → bytes_of (length word) (word ++ 13 ∷ 10 ∷ rest) ≡ Whole (Bulk word) rest
unfolding bytes_of
bytes_back word rest =
    let count : length (word ++ 13 ∷ 10 ∷ rest) ≡ length word + length (13 ∷ 10 ∷ rest) = length-append word (13 ∷ 10 ∷ rest) in
    let long : length word + 2 ≤ length (word ++ 13 ∷ 10 ∷ rest) = omega (arith, count) in
    let first : slice_index (word ++ 13 ∷ 10 ∷ rest) (length word) ≡ 13 = get_or-append_seam word 13 (10 ∷ rest) 0 in
    let second : slice_index (word ++ 13 ∷ 10 ∷ rest) (length word + 1) ≡ 10 = get_or-append-add word (13 ∷ 10 ∷ rest) 1 0 in
    rw (le-ltb (length (word ++ 13 ∷ 10 ∷ rest)) (length word + 2) long, first, second, take_at word (13 ∷ 10 ∷ rest) (length word) refl, drop-append-add word (13 ∷ 10 ∷ rest) 2) refl
