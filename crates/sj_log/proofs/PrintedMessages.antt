-- A message that is printed is read as it.
use Rattle.std.proofs.Common.{◌≡◌, ℕ, ◌<◌, ◌≤◌, ◌^◌, true, false, ℤ, pos, negsuc, ◌+◌, List, [], ◌∷◌, length, Option, Some, None, Bool, Ok, refl, ap, ◌∙◌, arith}
use Rattle.std.specs.Prelude.{nat_lt, decimal, codes}
use Rattle.std.specs.List.{list_all, join_with_byte}
use Rattle.std.proofs.lemmas.Bool.Decides.{nat_tests}
use Rattle.std.proofs.lemmas.List.Folds.{list_all-append}
use Rattle.std.proofs.lemmas.List.Splits.{join_with_byte-slice_split}
use Rattle.sj_base.specs.declared.Msg.{Msg}
use Rattle.sj_base.specs.declared.Msg.TheVariants as msgs
use Rattle.sj_lang.specs.FileAt.{FileAt}
use Rattle.sj_semantics.specs.Lines.{word_at, name_of, end_text, int_text, quoted_at, message_words}
use Rattle.sj_grammar.specs.Bytes.{is_digit, is_letter, is_word_byte}
use Rattle.sj_grammar.specs.Names.{is_word}
use Rattle.sj_print.specs.LogLine.{resend_word}
use Rattle.sj_log.specs.Fields.{both, made, words_in, bool_read}
use Rattle.sj_log.specs.Names.{text_read}
use Rattle.sj_log.specs.Notes.{message_read, sess_read}
use Rattle.sj_log.specs.Legible.{IsCount, IsInt, IsResend, IsMessage}
use Rattle.sj_grammar.proofs.DecimalLemmas.{printed_digits}
use Rattle.sj_log.proofs.PrintedFields.{first_holds, second_holds, int_back, end_back, party_back, label_back, text_back}
use Rattle.sj_log.proofs.PartedWords.{is_plain, parted, all_parted}

pub kept : (p q : ℕ → Bool) → ((x : ℕ) → p x ≡ true → q x ≡ true) → (xs : List ℕ) → list_all p xs ≡ true → list_all q xs ≡ true
kept p q h [] t = refl
kept p q h (x ∷ xs) t = rw (h x (first_holds (p x) _ t)) (kept p q h xs (second_holds (p x) _ t))

digit_plain : (x : ℕ) → is_digit x ≡ true → nat_lt 32 x ≡ true
digit_plain x t = grind (arith, nat_tests)

letter_plain : (x : ℕ) → is_letter x ≡ true → nat_lt 32 x ≡ true
letter_plain x t = grind (arith, nat_tests)

word_byte_plain : (x : ℕ) → is_word_byte x ≡ true → nat_lt 32 x ≡ true
word_byte_plain x t = grind (arith, nat_tests)

pub plain_number : (n : ℕ) → n < 2 ^ 64 → is_plain (decimal n) ≡ true
plain_number n h = kept is_digit (λ b. nat_lt 32 b) digit_plain (decimal n) (printed_digits n h)

pub plain_count : (n : ℕ) → IsCount n → is_plain (decimal n) ≡ true
plain_count n h = plain_number n (omega arith)

pub plain_word : (w : List ℕ) → is_word w ≡ true → is_plain w ≡ true
plain_word [] t = refl
plain_word (b ∷ bs) t = rw (letter_plain b (first_holds (is_letter b) _ t)) (kept is_word_byte (λ b. nat_lt 32 b) word_byte_plain bs (second_holds (is_letter b) _ t))

pub plain_end : (s d : ℕ) → IsCount s × (d ≤ 1) → is_plain (end_text s d) ≡ true
plain_end s d h =
    list_all-append (λ b. nat_lt 32 b) (decimal s) (46 ∷ decimal d) ∙ rw (plain_count s h.0) (plain_number d (let c = h.1 in omega arith))

pub plain_int : (n : ℤ) → IsInt n → is_plain (int_text n) ≡ true
plain_int (pos n) h = plain_number n (omega arith)
plain_int (negsuc n) h = plain_number (n + 1) (omega arith)

pub plain_resend : (r : Option ℕ) → IsResend r → is_plain (resend_word r) ≡ true
plain_resend None h = refl
plain_resend (Some n) h = plain_count n h

pub message_some : (file : FileAt) (m : Msg) → 0 < length (message_words file m)
message_some file (msgs.Int n) = omega arith
message_some file (msgs.Bool true) = omega arith
message_some file (msgs.Bool false) = omega arith
message_some file (msgs.Text n) = omega arith
message_some file (msgs.Label n) = omega arith
message_some file (msgs.More true) = omega arith
message_some file (msgs.More false) = omega arith
message_some file (msgs.Sess s d k) = omega arith

pub message_back : (file : FileAt) (m : Msg) → IsMessage file m → message_read file (words_in (join_with_byte 32 (message_words file m))) ≡ Ok m
unfolding message_read sess_read bool_read both
message_back file (msgs.Int n) h =
    ap (message_read file) (all_parted (codes "int" ∷ []) (int_text n) (refl, tt) (plain_int n h))
    ∙ ap (λ r. made (λ x. msgs.Int x.0) (both r (Ok tt))) (int_back n h)
message_back file (msgs.Bool true) h = refl
message_back file (msgs.Bool false) h = refl
message_back file (msgs.Text n) h =
    ap (message_read file) (parted (codes "String" ∷ []) (quoted_at file.texts n) [] (refl, tt))
    ∙ ap (λ t. made (λ k. msgs.Text k) (text_read file t)) (join_with_byte-slice_split 32 (quoted_at file.texts n))
    ∙ ap (made (λ k. msgs.Text k)) (text_back file n h)
message_back file (msgs.Label n) h =
    ap (message_read file) (all_parted (codes "label" ∷ []) (word_at file.words n) (refl, tt) (plain_word (word_at file.words n) h.form))
    ∙ ap (λ r. made (λ x. msgs.Label x.0) (both r (Ok tt))) (label_back file n h)
message_back file (msgs.More true) h = refl
message_back file (msgs.More false) h = refl
message_back file (msgs.Sess s d k) h =
    ap (message_read file) (all_parted (codes "session" ∷ end_text s d ∷ []) (name_of file k) (refl, (plain_end s d h.0, tt)) (plain_word (name_of file k) h.1.form))
    ∙ (λ i. made (λ x. msgs.Sess x.0.sess x.0.side x.1.0) (both (end_back s d h.0 i) (both (party_back file k h.1 i) (Ok tt))))
