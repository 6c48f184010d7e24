-- A field that is printed is read as what it was.
use Rattle.std.proofs.Common.{◌≡◌, ℕ, suc, ◌+◌, ◌-◌, ◌<◌, ◌≤◌, Bool, true, false, ℤ, pos, negsuc, List, [], ◌∷◌, ◌++◌, length, take, drop, get_or, Option, Some, None, Ok, refl, ap, ◌∙◌, arith}
use Rattle.std.specs.Prelude.{◌==◌, ◌&&◌, nat_lt, nat_le, decimal, codes, slice_index}
use Rattle.std.specs.List.{list_all, before_first, after_first, position_or_len}
use Rattle.std.specs.Str.{bytes_eq}
use Rattle.std.proofs.lemmas.Bool.{lt-ltb}
use Rattle.std.proofs.lemmas.Bool.Decides.{nat_tests}
use Rattle.std.proofs.lemmas.List.{get_or-append_right, length-append, take-append-le, take_all}
use Rattle.sj_lang.specs.FileAt.{FileAt}
use Rattle.sj_lang.specs.Words.{first_index}
use Rattle.sj_semantics.specs.Lines.{word_at, name_of, end_text, int_text, quoted_at, quoted_or_number}
use Rattle.sj_grammar.specs.Bytes.{is_digit, begins_with, is_printable}
use Rattle.sj_grammar.specs.Literals.{inner}
use Rattle.sj_print.specs.LogLine.{resend_word}
use Rattle.sj_log.specs.Fields.{both, made, number_read, count_read, clock_read, int_read, end_read, resend_read}
use Rattle.sj_log.specs.Names.{label_read, party_read, text_read}
use Rattle.sj_log.specs.Legible.{IsCount, IsInt, IsResend, HasParty, HasWord, HasText}
use Rattle.sj_grammar.proofs.DecimalLemmas.{printed_digits}
use Rattle.sj_log.proofs.NumberBack.{number_back}

-- digits have no dot and no minus
apart : (c x : ℕ) → c < 48 → is_digit x ≡ true → (x == c) ≡ false
apart c x h t = grind (arith, nat_tests)

pub first_holds : (a b : Bool) → (a && b) ≡ true → a ≡ true
first_holds true b t = refl
first_holds false b t = t

pub second_holds : (a b : Bool) → (a && b) ≡ true → b ≡ true
second_holds true b t = t
second_holds false b t = let none : ⊥ = cc in absurd none

no_minus : (ds : List ℕ) → list_all is_digit ds ≡ true → begins_with 45 ds ≡ false
no_minus [] t = refl
no_minus (b ∷ bs) t = apart 45 b (omega arith) (first_holds (is_digit b) _ t)

pub count_back : (n : ℕ) → IsCount n → count_read (decimal n) ≡ Ok n
unfolding count_read
count_back n h = number_back 0 4294967295 n (omega arith) h (omega arith)

pub clock_back : (n : ℕ) → 1 ≤ n → n ≤ 4611686018427387904 → clock_read (decimal n) ≡ Ok n
unfolding clock_read
clock_back n lo hi = number_back 1 4611686018427387904 n lo hi (omega arith)

pub int_back : (n : ℤ) → IsInt n → int_read (int_text n) ≡ Ok n
unfolding int_read
int_back (pos n) h =
    rw (no_minus (decimal n) (printed_digits n (omega arith))) (ap (made (λ k. pos k)) (number_back 0 9223372036854775807 n (omega arith) h (omega arith)))
int_back (negsuc n) h =
    ap (made (λ k. negsuc (k - 1))) (number_back 1 9223372036854775808 (n + 1) (omega arith) (omega arith) (omega arith))
    ∙ ap (λ k. Ok (negsuc k)) (let e : n + 1 - 1 ≡ n = omega arith in e)

dot_at : (ds ys : List ℕ) → list_all is_digit ds ≡ true → position_or_len (λ b. b == 46) (ds ++ 46 ∷ ys) ≡ length ds
dot_at [] ys t = refl
dot_at (b ∷ bs) ys t = rw (apart 46 b (omega arith) (first_holds (is_digit b) _ t)) (omega (arith, dot_at bs ys (second_holds (is_digit b) _ t)))

drop_first : (ds ys : List ℕ) → drop (length ds + 1) (ds ++ 46 ∷ ys) ≡ ys
drop_first [] ys = refl
drop_first (b ∷ bs) ys = let e : length (b ∷ bs) + 1 ≡ suc (length bs + 1) = omega arith in (λ i. drop (e i) (b ∷ (bs ++ 46 ∷ ys))) ∙ drop_first bs ys

before_dot : (ds ys : List ℕ) → list_all is_digit ds ≡ true → before_first (λ b. b == 46) (ds ++ 46 ∷ ys) ≡ ds
before_dot ds ys t = ap (λ k. take k (ds ++ 46 ∷ ys)) (dot_at ds ys t) ∙ take-append-le (length ds) ds (46 ∷ ys) (omega arith) ∙ take_all (length ds) ds (omega arith)

behind_dot : (ds ys : List ℕ) → list_all is_digit ds ≡ true → after_first (λ b. b == 46) (ds ++ 46 ∷ ys) ≡ ys
behind_dot ds ys t = ap (λ k. drop (k + 1) (ds ++ 46 ∷ ys)) (dot_at ds ys t) ∙ drop_first ds ys

pub end_back : (s d : ℕ) → IsCount s × (d ≤ 1) → end_read (end_text s d) ≡ Ok (record { sess = s; side = d })
unfolding end_read both
end_back s d h =
    (λ i. made (λ x. record { sess = x.0; side = x.1 })
    (both (count_read (before_dot (decimal s) (decimal d) (printed_digits s (let c = h.0 in omega arith)) i)) (number_read 0 1 (behind_dot (decimal s) (decimal d) (printed_digits s (let c = h.0 in omega arith)) i))))
    ∙ (λ i. made (λ x. record { sess = x.0; side = x.1 }) (both (count_back s h.0 i) (number_back 0 1 d (omega arith) h.1 (omega arith) i)))

at_most : (n m : ℕ) → n ≤ m → nat_le n m ≡ true
at_most n m h = grind (arith, nat_tests)

pub party_back : (file : FileAt) (p : ℕ) → HasParty file p → party_read file (name_of file p) ≡ Ok p
unfolding party_read
party_back file p h = rw h.form (rw h.first (rw (at_most p 65535 h.small) refl))

pub label_back : (file : FileAt) (n : ℕ) → HasWord file n → label_read file (word_at file.words n) ≡ Ok n
unfolding label_read
label_back file n h = rw h.form (rw h.first (rw (at_most n 65535 h.small) refl))

no_dash : (ds : List ℕ) → list_all is_digit ds ≡ true → bytes_eq ds (codes "-") ≡ false
no_dash [] t = refl
no_dash (b ∷ bs) t = rw (apart 45 b (omega arith) (first_holds (is_digit b) _ t)) refl

pub resend_back : (r : Option ℕ) → IsResend r → resend_read (resend_word r) ≡ Ok r
unfolding resend_read
resend_back None h = refl
resend_back (Some n) h = rw (no_dash (decimal n) (printed_digits n (omega arith))) (ap (made (λ k. Some k)) (count_back n h))

inner_is : (t : List ℕ) → inner (34 ∷ t ++ 34 ∷ []) ≡ t
inner_is t =
    let long : length (34 ∷ t ++ 34 ∷ []) - 1 ≡ length (34 ∷ t) = omega (arith, length-append t (34 ∷ [])) in
    (λ i. drop 1 (take (long i) (34 ∷ t ++ 34 ∷ []))) ∙ ap (drop 1) (take-append-le (length (34 ∷ t)) (34 ∷ t) (34 ∷ []) (omega arith) ∙ take_all (length (34 ∷ t)) (34 ∷ t) (omega arith))

last_is : (t : List ℕ) → slice_index (34 ∷ t ++ 34 ∷ []) (length (34 ∷ t ++ 34 ∷ []) - 1) ≡ 34
last_is t =
    let long : length (34 ∷ t ++ 34 ∷ []) - 1 ≡ length (34 ∷ t) = omega (arith, length-append t (34 ∷ [])) in
    let none : length (34 ∷ t) - length (34 ∷ t) ≡ 0 = omega arith in
    (λ i. slice_index (34 ∷ t ++ 34 ∷ []) (long i)) ∙ get_or-append_right (34 ∷ t) (34 ∷ []) (length (34 ∷ t)) (length (34 ∷ t)) 0 refl (omega arith) ∙ (λ i. get_or (34 ∷ []) (none i) 0)

two_quotes : (t : List ℕ) → nat_lt 1 (length (34 ∷ t ++ 34 ∷ [])) ≡ true
two_quotes t = lt-ltb 1 (length (34 ∷ t ++ 34 ∷ [])) (omega (arith, length-append t (34 ∷ [])))

quoted_back : (file : FileAt) (n : ℕ) (t : List ℕ) → list_all is_printable t ≡ true → first_index t file.texts ≡ Some n → n ≤ 4294967295 → text_read file (34 ∷ t ++ 34 ∷ []) ≡ Ok n
unfolding text_read
quoted_back file n t form first small =
    rw (two_quotes t) (rw (last_is t) (rw (inner_is t) (rw form (rw first (rw (at_most n 4294967295 small) refl)))))

pub text_back : (file : FileAt) (n : ℕ) → HasText file n → text_read file (quoted_at file.texts n) ≡ Ok n
text_back file n h = ap (λ o. text_read file (quoted_or_number n o)) h.here ∙ quoted_back file n h.text h.form h.first h.small
