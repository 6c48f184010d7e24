-- What the lexer answers at the start of a number and of a text.
use Rattle.std.proofs.Common.{◌≡◌, ℕ, ◌+◌, Bool, true, false, List, [], ◌∷◌, ◌++◌, length, take, drop, refl, ap, sym, ◌∙◌, arith, append_assoc, length-append}
use Rattle.std.specs.Prelude.{◌&&◌, ◌||◌, nat_lt}
use Rattle.std.specs.Prelude as std
use Rattle.std.specs.List.{prefix_len, list_all}
use Rattle.std.specs.Str.Parse.{digits_value}
use Rattle.std.proofs.Math.Seq.{take-append_seam, drop-append_seam}
use Rattle.std.proofs.lemmas.Bool.{le-ltb}
use Rattle.sj_grammar.specs.declared.tokens.What.TheVariants.{Number, Text}
use Rattle.sj_grammar.specs.Bytes.{is_blank, is_letter, is_digit, is_inside, is_printable, begins_with}
use Rattle.sj_grammar.specs.Lexis.{token, cut, next_of, number_of, text_of, has_leading_zero, most}
use Rattle.sj_grammar.specs.Literals.{is_number, quoted}
use Rattle.sj_grammar.proofs.LexingLemmas.{NoWordByte, apart}
use Rattle.sj_expr.proofs.TestLemmas.{and_first, and_second}
use Rattle.sj_expr.proofs.NumberLemmas.{digits_are, no_zero_before, some_digit, number_most}
use Rattle.sj_expr.proofs.TokenLemmas.{digit_no_letter}

-- bytes that pass, up to one that doesn't
run_to : (p : ℕ → Bool) (ds rest : List ℕ) → list_all p ds ≡ true → prefix_len p rest ≡ 0 → prefix_len p (ds ++ rest) ≡ length ds
run_to p [] rest h none = none
run_to p (b ∷ ds) rest h none = by_test (p b) refl h (λ t. run_to p ds rest t none)
  where
    by_test : (x : Bool) → p b ≡ x → (x && list_all p ds) ≡ true → (list_all p ds ≡ true → prefix_len p (ds ++ rest) ≡ length ds) → prefix_len p (b ∷ (ds ++ rest)) ≡ length (b ∷ ds)
    by_test true e t more = let long = more t in rw e (omega arith)
    by_test false e t more = cc

-- no digit where no word goes on
no_digit : (rest : List ℕ) → NoWordByte rest → prefix_len is_digit rest ≡ 0
no_digit [] free = refl
no_digit (b ∷ rest) free = by_tests (is_letter b) (is_digit b) refl free
  where
    by_tests : (x y : Bool) → is_digit b ≡ y → (x || y) ≡ false → prefix_len is_digit (b ∷ rest) ≡ 0
    by_tests true y e t = cc
    by_tests false true e t = cc
    by_tests false false e t = rw e refl

no_true : (x : Bool) → (std.not x) ≡ true → x ≡ false
no_true true e = let no : ⊥ = cc in absurd no
no_true false e = refl

number_cut : (ds rest : List ℕ) → is_number ds ≡ true → number_of ds (ds ++ rest) ≡ token (Number (digits_value 10 ds)) ds rest
number_cut ds rest t =
    let zero_free : has_leading_zero ds ≡ false = no_true (has_leading_zero ds) (no_zero_before ds t) in
    let small : nat_lt most (digits_value 10 ds) ≡ false = le-ltb most (digits_value 10 ds) (number_most ds t) in
    rw (zero_free, small) (λ i. token (Number (digits_value 10 ds)) (take-append_seam ds rest i) (drop-append_seam ds rest i))

pub number_next : (ds rest : List ℕ) → is_number ds ≡ true → NoWordByte rest → next_of (ds ++ rest) ≡ token (Number (digits_value 10 ds)) ds rest
number_next [] rest t free = let some = some_digit [] t in absurd (omega arith)
number_next (b ∷ ds) rest t free =
    let digit : is_digit b ≡ true = and_first (is_digit b) (list_all is_digit ds) (digits_are (b ∷ ds) t) in
    let blank : is_blank b ≡ false = rw (apart is_digit b 32 digit refl, apart is_digit b 9 digit refl, apart is_digit b 10 digit refl, apart is_digit b 13 digit refl) refl in
    let step : next_of (b ∷ (ds ++ rest)) ≡ number_of (take (prefix_len is_digit (b ∷ (ds ++ rest))) (b ∷ (ds ++ rest))) (b ∷ (ds ++ rest)) = rw (blank, apart is_digit b 47 digit refl, digit_no_letter b digit, digit) refl in
    let run : take (prefix_len is_digit (b ∷ (ds ++ rest))) (b ∷ (ds ++ rest)) ≡ b ∷ ds =
    ap (λ n. take n (b ∷ (ds ++ rest))) (run_to is_digit (b ∷ ds) rest (digits_are (b ∷ ds) t) (no_digit rest free)) ∙ take-append_seam (b ∷ ds) rest in
    step ∙ ap (λ xs. number_of xs (b ∷ (ds ++ rest))) run ∙ number_cut (b ∷ ds) rest t

-- a text between its quotes
inside_is : (t : List ℕ) → list_all is_printable t ≡ true → list_all is_inside t ≡ true
inside_is [] h = refl
inside_is (b ∷ t) h =
    let printable : is_printable b ≡ true = and_first (is_printable b) (list_all is_printable t) h in
    let rest : list_all is_inside t ≡ true = inside_is t (and_second (is_printable b) (list_all is_printable t) h) in
    let within : is_inside b ≡ true = rw (apart is_printable b 34 printable refl, apart is_printable b 10 printable refl) refl in
    rw within rest

pub text_next : (t rest : List ℕ) → list_all is_printable t ≡ true → next_of (quoted t ++ rest) ≡ token Text (quoted t) rest
text_next t rest h =
    let bs = t ++ 34 ∷ rest in
    let same : quoted t ++ rest ≡ 34 ∷ bs = ap (λ xs. 34 ∷ xs) (append_assoc t (34 ∷ []) rest) in
    let run : prefix_len is_inside bs ≡ length t = run_to is_inside t (34 ∷ rest) (inside_is t h) refl in
    let whole : prefix_len is_printable bs ≡ length t = run_to is_printable t (34 ∷ rest) h refl in
    let closed : begins_with 34 (drop (length t) bs) ≡ true = ap (begins_with 34) (drop-append_seam t (34 ∷ rest)) in
    let all : nat_lt (prefix_len is_printable bs) (length t) ≡ false = ap (λ n. nat_lt n (length t)) whole ∙ le-ltb (length t) (length t) (omega arith) in
    let step : next_of (34 ∷ bs) ≡ text_of (length t) bs = ap (λ n. text_of n bs) run in
    let cuts : text_of (length t) bs ≡ cut Text (length t + 2) (34 ∷ bs) = rw (closed, all) refl in
    let long : length t + 2 ≡ length (quoted t) = omega (arith, length-append t (34 ∷ [])) in
    ap next_of same ∙ step ∙ cuts ∙ (λ i. cut Text (long i) (sym same i)) ∙ (λ i. token Text (take-append_seam (quoted t) rest i) (drop-append_seam (quoted t) rest i))
