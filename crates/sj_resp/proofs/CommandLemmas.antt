-- A command that is put is read as its tokens.
use Rattle.std.proofs.Common.{◌≡◌, ℕ, ◌+◌, ◌<◌, ◌≤◌, ◌^◌, false, List, [], ◌∷◌, ◌++◌, length, slice_index, refl, ap, ◌∙◌, arith, append_assoc}
use Rattle.std.specs.Prelude.{◌==◌, decimal, map}
use Rattle.std.specs.List.{AllByRecursion, flat_map}
use Rattle.std.specs.Str.Parse.{AllDigits}
use Rattle.std.proofs.lemmas.Bool.{le-ltb}
use Rattle.std.proofs.lemmas.Bool.Decides.{nat_tests}
use Rattle.std.proofs.lemmas.Str.Parse.{numerals_by_value, tells_digits, digit_from_value}
use Rattle.std.proofs.lemmas.Fmt.{digits_decimal, length-decimal-le}
use Rattle.std.proofs.lemmas.List.{length-append, take_at, get_or-append-add}
use Rattle.std.proofs.Math.Seq.{drop-append-add}
use Rattle.sj_resp.specs.Command.{AreRead, command_tokens}
use Rattle.sj_resp.specs.Front.{Front, Whole, front_of, is_null, line_end, line_then, token_of}
use Rattle.sj_resp.specs.Limits.{longest_line, most_bytes, most_parts}
use Rattle.sj_resp.specs.Spelling.{command_text, head_text, word_text}
use Rattle.sj_resp.specs.Token.{Array, Bulk}
use Rattle.sj_resp.proofs.ReadLemmas.{bytes_back, not_below, number_back}

no_return : (c : ℕ) → (48 ≤ c) × (c ≤ 57) → (c == 13) ≡ false
no_return c h = grind (arith, nat_tests, h.0)

no_minus : (c : ℕ) → (48 ≤ c) × (c ≤ 57) → (c == 45) ≡ false
no_minus c h = grind (arith, nat_tests, h.0)

-- a line of digits ends after the last one
digits_end : (line rest : List ℕ) → AllDigits 10 line → line_end (line ++ 13 ∷ rest) ≡ length line
digits_end [] rest t = refl
digits_end (c ∷ cs) rest t = rw (no_return c (digit_from_value c t.0), digits_end cs rest t.1) (omega arith)

-- and isn't -1
not_null : (line : List ℕ) → AllDigits 10 line → is_null line ≡ false
not_null [] t = refl
not_null (c ∷ cs) t = rw (no_minus c (digit_from_value c t.0)) refl

line_back : (read : List ℕ → List ℕ → Front) (line rest : List ℕ) → AllDigits 10 line → length line ≤ longest_line →
    line_then read (line ++ 13 ∷ 10 ∷ rest) ≡ read line rest
unfolding line_then
line_back read line rest t short =
    let at : line_end (line ++ 13 ∷ 10 ∷ rest) ≡ length line = digits_end line (10 ∷ rest) t in
    let count : length (line ++ 13 ∷ 10 ∷ rest) ≡ length line + length (13 ∷ 10 ∷ rest) = length-append line (13 ∷ 10 ∷ rest) in
    let long : length line + 2 ≤ length (line ++ 13 ∷ 10 ∷ rest) = omega (arith, count) in
    let second : slice_index (line ++ 13 ∷ 10 ∷ rest) (length line + 1) ≡ 10 = get_or-append-add line (13 ∷ 10 ∷ rest) 1 0 in
    rw (at, not_below (length line) longest_line short, le-ltb (length (line ++ 13 ∷ 10 ∷ rest)) (length line + 2) long, second, take_at line (13 ∷ 10 ∷ rest) (length line) refl, drop-append-add line (13 ∷ 10 ∷ rest) 2) refl

digits_of : (n : ℕ) → n < 2 ^ 64 → AllDigits 10 (decimal n)
digits_of n small = digits_decimal (numerals_by_value (AllDigits 10) tells_digits) n small

short_line : (n : ℕ) → n ≤ most_bytes → length (decimal n) ≤ longest_line
short_line n h =
    let nine : length (decimal n) ≤ 9 = length-decimal-le 9 n (omega arith) (omega arith) (omega arith) in
    omega (arith, nine)

-- the head of a command is read as the head of an array
head_back : (n : ℕ) (rest : List ℕ) → n ≤ most_parts → front_of (head_text n ++ rest) ≡ Whole (Array n) rest
unfolding front_of token_of head_text
head_back n rest h =
    let digits : AllDigits 10 (decimal n) = digits_of n (omega arith) in
    let kind : front_of (head_text n ++ rest) ≡ line_then (token_of 42) ((decimal n ++ 13 ∷ 10 ∷ []) ++ rest) = refl in
    let apart : line_then (token_of 42) ((decimal n ++ 13 ∷ 10 ∷ []) ++ rest) ≡ line_then (token_of 42) (decimal n ++ 13 ∷ 10 ∷ rest) = ap (line_then (token_of 42)) (append_assoc (decimal n) (13 ∷ 10 ∷ []) rest) in
    let line : line_then (token_of 42) (decimal n ++ 13 ∷ 10 ∷ rest) ≡ token_of 42 (decimal n) rest = line_back (token_of 42) (decimal n) rest digits (short_line n (omega arith)) in
    let token : token_of 42 (decimal n) rest ≡ Whole (Array n) rest = rw (not_null (decimal n) digits, number_back most_parts n h (omega arith)) refl in
    kind ∙ apart ∙ line ∙ token

-- a word is read as a bulk
word_back : (word rest : List ℕ) → length word ≤ most_bytes → front_of (word_text word ++ rest) ≡ Whole (Bulk word) rest
unfolding front_of token_of word_text
word_back word rest h =
    let size = decimal (length word) in
    let digits : AllDigits 10 size = digits_of (length word) (omega arith) in
    let kind : front_of (word_text word ++ rest) ≡ line_then (token_of 36) ((((size ++ 13 ∷ 10 ∷ []) ++ word) ++ 13 ∷ 10 ∷ []) ++ rest) = refl in
    let apart : (((size ++ 13 ∷ 10 ∷ []) ++ word) ++ 13 ∷ 10 ∷ []) ++ rest ≡ size ++ 13 ∷ 10 ∷ (word ++ 13 ∷ 10 ∷ rest) =
    append_assoc ((size ++ 13 ∷ 10 ∷ []) ++ word) (13 ∷ 10 ∷ []) rest ∙ append_assoc (size ++ 13 ∷ 10 ∷ []) word (13 ∷ 10 ∷ rest) ∙ append_assoc size (13 ∷ 10 ∷ []) (word ++ 13 ∷ 10 ∷ rest) in
    let line : line_then (token_of 36) (size ++ 13 ∷ 10 ∷ (word ++ 13 ∷ 10 ∷ rest)) ≡ token_of 36 size (word ++ 13 ∷ 10 ∷ rest) =
    line_back (token_of 36) size (word ++ 13 ∷ 10 ∷ rest) digits (short_line (length word) h) in
    let token : token_of 36 size (word ++ 13 ∷ 10 ∷ rest) ≡ Whole (Bulk word) rest = rw (not_null size digits, number_back most_bytes (length word) h (omega arith)) (bytes_back word rest) in
    kind ∙ ap (line_then (token_of 36)) apart ∙ line ∙ token

words_back : (words : List (List ℕ)) (rest : List ℕ) → AllByRecursion (λ w. length w ≤ most_bytes) words → AreRead (map Bulk words) (flat_map word_text words ++ rest) rest
words_back [] rest h = refl
words_back (w ∷ ws) rest h =
    (flat_map word_text ws ++ rest, ap front_of (append_assoc (word_text w) (flat_map word_text ws) rest) ∙ word_back w (flat_map word_text ws ++ rest) h.0, words_back ws rest h.1)

pub command_back : (words : List (List ℕ)) (rest : List ℕ) → length words ≤ most_parts → AllByRecursion (λ w. length w ≤ most_bytes) words →
    AreRead (command_tokens words) (command_text words ++ rest) rest
unfolding command_text
command_back words rest few short =
    (flat_map word_text words ++ rest, ap front_of (append_assoc (head_text (length words)) (flat_map word_text words) rest) ∙ head_back (length words) (flat_map word_text words ++ rest) few, words_back words rest short)
