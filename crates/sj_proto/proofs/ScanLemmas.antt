-- The token at a position.
use Rattle.std.proofs.Common.{◌≡◌, ◌≢◌, ℕ, zero, suc, ◌+◌, ◌-◌, ◌<◌, ◌≤◌, ◌*◌, ◌^◌, ◌==◌, ◌&&◌, ◌||◌, true, false, IsTrue, List, [], ◌∷◌, length, take, drop, get_or, None, refl, ap, sym, ◌∙◌, arith, add-one}
use Rattle.std.specs.Str.Parse.{digits_value}
use Rattle.std.specs.Char.{is_ascii_digit}
use Rattle.std.proofs.Math.Seq.{drop-cons}
use Rattle.std.proofs.lemmas.Bool.{lt-ltb, ne_eqb}
use Rattle.std.proofs.lemmas.Bool.Decides.{nat_tests}
use Rattle.std.proofs.lemmas.List.{drop-drop}
use Rattle.std.proofs.lemmas.Str.Parse.{digits_value-take-le}
use Rattle.std.proofs.lemmas.Str.{digit_value_digit}
use Rattle.std.proofs.lemmas.Int.Digits.{digits_value_more}
use Rattle.sj_grammar.specs.declared.tokens.Rule.TheVariants.{P2}
use Rattle.sj_grammar.specs.declared.tokens.What.{What}
use Rattle.sj_grammar.specs.declared.tokens.What.TheVariants.{Symbol}
use Rattle.sj_grammar.specs.Bytes.{is_blank, is_letter, is_digit, is_symbol, begins_with}
use Rattle.sj_grammar.specs.Lexis.{bad, token, cut, token_of, next_of, in_comment}
use Rattle.sj_proto.specs.Found.{value_of}

-- the text at a position
pub open_at : (xs : List ℕ) (i : ℕ) → i < length xs → drop i xs ≡ get_or xs i 0 ∷ drop (i + 1) xs
open_at xs i h = rw add-one (drop-cons xs i 0 h)

-- n bytes from a position on
pub piece_is : (what : What) (xs : List ℕ) (from to n : ℕ) → to ≡ from + n → token what (take (to - from) (drop from xs)) (drop to xs) ≡ cut what n (drop from xs)
piece_is what xs from to n e =
    let long : to - from ≡ n = omega arith in
    let rest : drop n (drop from xs) ≡ drop to xs = drop-drop n from xs ∙ ap (λ k. drop k xs) (sym e) in
    λ i. token what (take (long i) (drop from xs)) (sym rest i)

module _ (b : ℕ) (bs : List ℕ) (no_letter : false ≡ is_letter b) (no_digit : false ≡ is_digit b) (no_quote : b ≢ 34) where
  pub double_is : true ≡ ((b == 60 || b == 61) && begins_with 61 bs) → token_of (b ∷ bs) ≡ cut Symbol 2 (b ∷ bs)
  double_is d = rw (sym no_letter, sym no_digit, ne_eqb b 34 no_quote, sym d) refl

  pub single_is : false ≡ ((b == 60 || b == 61) && begins_with 61 bs) → true ≡ is_symbol b → token_of (b ∷ bs) ≡ cut Symbol 1 (b ∷ bs)
  single_is d s = rw (sym no_letter, sym no_digit, ne_eqb b 34 no_quote, sym d, sym s) refl

  pub none_is : false ≡ ((b == 60 || b == 61) && begins_with 61 bs) → false ≡ is_symbol b → token_of (b ∷ bs) ≡ bad P2 (b ∷ bs)
  none_is d s = rw (sym no_letter, sym no_digit, ne_eqb b 34 no_quote, sym d, sym s) refl

-- two slashes
pub comment_is : (b : ℕ) (bs : List ℕ) → false ≡ is_blank b → b ≡ 47 → true ≡ begins_with 47 bs → next_of (b ∷ bs) ≡ in_comment (drop 1 bs)
comment_is b [] no_blank slash t = cc
comment_is b (c ∷ cs) no_blank slash t = rw (sym no_blank, ap (λ n. n == 47) slash, sym t) refl

pub some_begins : (c : ℕ) (xs : List ℕ) (i : ℕ) → true ≡ begins_with c (drop i xs) → i < length xs
some_begins c [] zero t = cc
some_begins c [] (suc i) t = cc
some_begins c (x ∷ xs) zero t = omega arith
some_begins c (x ∷ xs) (suc i) t = omega (arith, some_begins c xs i t)

in_digits : (c : ℕ) → IsTrue (is_ascii_digit c) → (48 ≤ c) × (c ≤ 57)
in_digits c t = grind (arith, nat_tests)

-- too large
pub none_of : (ds : List ℕ) (i v : ℕ) → v ≡ digits_value 10 (take i ds) → i < length ds → IsTrue (is_ascii_digit (get_or ds i 0)) → 2 ^ 63 < v * 10 + (get_or ds i 0 - 48) → None ≡ value_of ds
none_of ds i v e h digit large =
    let range : (48 ≤ get_or ds i 0) × (get_or ds i 0 ≤ 57) = in_digits (get_or ds i 0) digit in
    let one : 1 ≤ 10 = omega arith in
    let big : 2 ^ 63 < digits_value 10 ds =
    omega (arith, digits_value_more 10 ds i h, digits_value-take-le 10 ds (i + 1) one, digit_value_digit (get_or ds i 0) range) in
    rw (lt-ltb (2 ^ 63) (digits_value 10 ds) big) refl
