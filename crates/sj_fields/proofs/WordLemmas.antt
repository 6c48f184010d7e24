-- The words of a line, taken off one after another.
use Rattle.std.proofs.Common.{◌≡◌, ℕ, ◌+◌, ◌-◌, ◌<◌, ◌≤◌, Bool, false, List, [], ◌∷◌, length, take, drop, ap, sym, ◌∙◌, arith}
use Rattle.std.specs.Prelude.{◌==◌}
use Rattle.std.specs.List.{slice_split, position_or_len, join_with_byte}
use Rattle.std.proofs.lemmas.List.{take_all, length-drop}
use Rattle.std.proofs.lemmas.List.Splits.{slice_split_none, slice_split_first, length-slice_split, join_with_byte-slice_split}
use Rattle.std.proofs.lemmas.List.Sums.{fails_before_first}
use Rattle.sj_fields.specs.Fields.{words_in, word, rest}

-- where the byte stands nowhere there is one part
pub one_part : (p : ℕ → Bool) (xs : List ℕ) → length xs ≤ position_or_len p xs → slice_split p xs ≡ xs ∷ []
one_part p xs e = slice_split_none p xs (λ k d l. fails_before_first p xs k d (omega arith))

-- there is always a part
pub some_part : (p : ℕ → Bool) (xs : List ℕ) → 0 < length (slice_split p xs)
some_part p xs = omega (arith, length-slice_split p xs)

module _ (line : List ℕ) (e : ℕ) (at : e ≡ position_or_len (λ b. b == 32) line) where
  words_first : e < length line → words_in line ≡ take e line ∷ words_in (drop (e + 1) line)
  words_first h = rw at (slice_split_first (λ b. b == 32) line 0 (omega arith))

  words_last : length line ≤ e → words_in line ≡ line ∷ []
  words_last h = one_part (λ b. b == 32) line (omega arith)

  pub word_first : e < length line → take e line ≡ word (words_in line)
  word_first h = sym (ap word (words_first h))

  pub rest_first : e < length line → words_in (take (length line - (e + 1)) (drop (e + 1) line)) ≡ rest (words_in line)
  rest_first h = ap words_in (take_all (length line - (e + 1)) (drop (e + 1) line) (omega (arith, length-drop (e + 1) line))) ∙ sym (ap rest (words_first h))

  pub word_last : length line ≤ e → line ≡ word (words_in line)
  word_last h = sym (ap word (words_last h))

  pub rest_last : length line ≤ e → [] ≡ rest (words_in line)
  rest_last h = sym (ap rest (words_last h))

pub ended_by : (n : ℕ) → 0 < n → (n == 0) ≡ false
ended_by n h = grind arith

pub not_ended : (line : List ℕ) → false ≡ (length (words_in line) == 0)
not_ended line = sym (ended_by (length (words_in line)) (some_part (λ b. b == 32) line))

pub all_words : (line : List ℕ) → line ≡ join_with_byte 32 (words_in line)
all_words line = sym (join_with_byte-slice_split 32 line)

pub ruleset parting = (word_first, rest_first, word_last, rest_last, not_ended, all_words)
