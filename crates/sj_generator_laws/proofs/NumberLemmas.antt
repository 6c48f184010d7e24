-- The digits of a number are a token of the grammar, and the generated text stands for its file.
use Rattle.std.proofs.Common.{◌≡◌, ℕ, ◌^◌, ◌<◌, true, List, length, refl, arith}
use Rattle.std.specs.Prelude.{decimal}
use Rattle.std.specs.Str.Parse.{digits_value}
use Rattle.std.proofs.lemmas.Bool.{lt-ltb, le-leb}
use Rattle.std.proofs.lemmas.Fmt.{decimal_is_IsNumeral, decimal_nonempty}
use Rattle.sj_lang.specs.FileAt.{FileAt}
use Rattle.sj_grammar.specs.Bytes.{is_digit}
use Rattle.sj_grammar.specs.Files.{IsFile}
use Rattle.sj_grammar.specs.Lexis.{most}
use Rattle.sj_grammar.specs.Literals.{is_number}
use Rattle.sj_grammar.proofs.DecimalLemmas.{canonical, printed_digits}
use Rattle.sj_expr.proofs.NumberLemmas.{digits_are}
use Rattle.sj_expr.proofs.TokenLemmas.{number_no_name, number_no_text}
use Rattle.sj_party.proofs.OneFile.{one_file}
use Rattle.sj_party.proofs.TokenTextLemmas.{number_next}
use Rattle.sj_generator.specs.Generated.{generated}
use Rattle.sj_generator_laws.specs.GeneratedFile.{generated_file}
use Rattle.sj_generator_laws.proofs.GrammarLemmas.{is_file}
use Rattle.sj_generator_laws.proofs.TakenTokenLemmas.{AreRead, no_newline}
use Rattle.sj_generator_laws.proofs.TextTokenLemmas.{text_is_tokens}

-- a number is read whole
reads : (s : List ℕ) → is_number s ≡ true → AreRead s
reads s h = record { next = λ rest free. number_next s rest h free; line = λ l. no_newline is_digit refl l s (digits_are s h) }

number : (n : ℕ) → n < most → is_number (decimal n) ≡ true
number n lt =
    let below : n < 2 ^ 64 = omega (arith, lt) in
    let value : digits_value 10 (decimal n) ≡ n = (decimal_is_IsNumeral n below).1 in
    rw (lt-ltb 0 (length (decimal n)) (decimal_nonempty n below), printed_digits n below, canonical n below, le-leb (digits_value 10 (decimal n)) most (omega (arith, value, lt))) refl

pub text_stands : (n : ℕ) → n < most → IsFile (generated n) (generated_file n)
text_stands n lt =
    let below : n < 2 ^ 64 = omega (arith, lt) in
    let is = number n lt in
    is_file reads n (decimal n) (generated n) (record { number = is; value = (decimal_is_IsNumeral n below).1; small = lt }) (number_no_name (decimal n) is) (number_no_text (decimal n) is) (text_is_tokens n)

pub stands_alone : (n : ℕ) (f : FileAt) → n < most → IsFile (generated n) f → f ≡ generated_file n
stands_alone n f lt is = one_file (generated n) f (generated_file n) is (text_stands n lt)
