-- Numbers, names and texts are different tokens.
use Rattle.std.proofs.Common.{◌≡◌, ℕ, suc, ◌-◌, ◌<◌, Bool, true, false, List, [], ◌∷◌, ◌++◌, length, take, drop, refl, ap, sym, subst, ◌∙◌, arith}
use Rattle.std.specs.Prelude.{codes, ◌&&◌, not, nat_lt, nat_eq}
use Rattle.std.specs.List.{list_all}
use Rattle.std.specs.Str.{bytes_eq}
use Rattle.std.specs.Str.Parse.{digits_value}
use Rattle.std.proofs.lemmas.Bool.{ne_eqb}
use Rattle.std.proofs.lemmas.Bool.Decides.{nat_tests}
use Rattle.sj_grammar.specs.Bytes.{is_letter, is_word_byte, is_digit, is_printable}
use Rattle.sj_grammar.specs.Lexis.{most}
use Rattle.sj_grammar.specs.Names.{is_name, is_reserved}
use Rattle.sj_grammar.specs.Literals.{is_number, is_largest, is_text, quoted, inner}
use Rattle.sj_expr.proofs.TestLemmas.{bytes_same, bytes_are, and_first, and_second, and_both, and_none}

-- a digit is no letter
pub digit_no_letter : (b : ℕ) → is_digit b ≡ true → is_letter b ≡ false
digit_no_letter b t = grind (arith, nat_tests)

letter_no_digit : (b : ℕ) → is_letter b ≡ true → is_digit b ≡ false
letter_no_digit b t = grind (arith, nat_tests)

digit_other : (b c : ℕ) → is_digit b ≡ true → is_digit c ≡ false → nat_eq b c ≡ false
digit_other b c t f = ne_eqb b c (λ e. let was : is_digit b ≡ is_digit c = ap is_digit e in cc)

-- what a number begins with
number_byte : (s : List ℕ) → is_number s ≡ true → (b : ℕ) × (bs : List ℕ) × (s ≡ b ∷ bs) × (is_digit b ≡ true)
number_byte [] t = let no : ⊥ = cc in absurd no
number_byte (b ∷ bs) t =
    let digits : list_all is_digit (b ∷ bs) ≡ true = and_first _ _ (and_second (nat_lt 0 (length (b ∷ bs))) _ t) in
    (b, bs, refl, and_first (is_digit b) (list_all is_digit bs) digits)

name_byte : (s : List ℕ) → is_name s ≡ true → (b : ℕ) × (bs : List ℕ) × (s ≡ b ∷ bs) × (is_letter b ≡ true)
name_byte [] t = let no : ⊥ = cc in absurd no
name_byte (b ∷ bs) t = (b, bs, refl, and_first (is_letter b) (list_all is_word_byte bs) (and_first (is_letter b && list_all is_word_byte bs) (not (is_reserved (b ∷ bs))) t))

-- what begins with another byte is no text
no_text_at : (b : ℕ) (bs : List ℕ) → nat_eq b 34 ≡ false → is_text (b ∷ bs) ≡ false
no_text_at b bs e = rw e refl

no_number_at : (b : ℕ) (bs : List ℕ) → is_digit b ≡ false → is_number (b ∷ bs) ≡ false
no_number_at b bs e = rw e (and_none (nat_lt 0 (length (b ∷ bs))))

no_name_at : (b : ℕ) (bs : List ℕ) → is_letter b ≡ false → is_name (b ∷ bs) ≡ false
no_name_at b bs e = rw e refl

pub number_no_text : (s : List ℕ) → is_number s ≡ true → is_text s ≡ false
number_no_text s t =
    let x = number_byte s t in
    subst (λ (u : List ℕ). is_text u ≡ false) (sym x.2) (no_text_at x.0 x.1 (digit_other x.0 34 x.3 refl))

pub number_no_name : (s : List ℕ) → is_number s ≡ true → is_name s ≡ false
number_no_name s t =
    let x = number_byte s t in
    subst (λ (u : List ℕ). is_name u ≡ false) (sym x.2) (no_name_at x.0 x.1 (digit_no_letter x.0 x.3))

pub name_no_number : (s : List ℕ) → is_name s ≡ true → is_number s ≡ false
name_no_number s t =
    let x = name_byte s t in
    subst (λ (u : List ℕ). is_number u ≡ false) (sym x.2) (no_number_at x.0 x.1 (letter_no_digit x.0 x.3))

-- the largest number is the one that is too large elsewhere
pub no_largest : (s : List ℕ) → digits_value 10 s < most → is_largest s ≡ false
no_largest s h = by_test (is_largest s) refl
  where
    by_test : (b : Bool) → is_largest s ≡ b → b ≡ false
    by_test false e = refl
    by_test true e =
        let same : digits_value 10 s ≡ most = ap (digits_value 10) (bytes_same s (codes "9223372036854775808") e) in
        absurd (omega arith)

take_all : (t rest : List ℕ) → take (length t) (t ++ rest) ≡ t
take_all [] rest = refl
take_all (b ∷ t) rest = ap (λ x. b ∷ x) (take_all t rest)

pub long_by_one : (t : List ℕ) (b : ℕ) → length (t ++ b ∷ []) ≡ suc (length t)
long_by_one [] b = refl
long_by_one (c ∷ t) b = ap (λ x. suc x) (long_by_one t b)

pub inner_quoted : (t : List ℕ) → inner (quoted t) ≡ t
inner_quoted t =
    let long : length (quoted t) - 1 ≡ suc (length t) = omega (arith, long_by_one t 34) in
    (λ i. drop 1 (take (long i) (quoted t))) ∙ take_all t (34 ∷ [])

pub quoted_text : (t : List ℕ) → list_all is_printable t ≡ true → is_text (quoted t) ≡ true
quoted_text t p =
    and_both (bytes_eq (quoted t) (quoted (inner (quoted t)))) (list_all is_printable (inner (quoted t)))
    (bytes_are (quoted t) (quoted (inner (quoted t))) (ap quoted (sym (inner_quoted t)))) (subst (λ (x : List ℕ). list_all is_printable x ≡ true) (sym (inner_quoted t)) p)

pub text_quoted : (s : List ℕ) → is_text s ≡ true → (s ≡ quoted (inner s)) × (list_all is_printable (inner s) ≡ true)
text_quoted s t = (bytes_same s (quoted (inner s)) (and_first _ _ t), and_second (bytes_eq s (quoted (inner s))) _ t)

pub text_no_number : (t : List ℕ) → is_number (quoted t) ≡ false
text_no_number t = no_number_at 34 (t ++ 34 ∷ []) refl

pub text_no_name : (s : List ℕ) → is_text s ≡ true → is_name s ≡ false
text_no_name s t = subst (λ (u : List ℕ). is_name u ≡ false) (sym (text_quoted s t).0) refl
