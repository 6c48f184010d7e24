-- Where a text is cut.
use Rattle.std.proofs.Common.{◌≡◌, ℕ, ◌<◌, ◌+◌, ◌-◌, List, [], length, get_or, take, drop, eqb, false, sym, ap, ◌∙◌, arith, rules}
use Rattle.std.proofs.Math.ListN.{drop_of_length-le}
use Rattle.std.proofs.Math.Seq.{take-length}
use Rattle.std.proofs.lemmas.List.{length-drop}
use Rattle.std.proofs.lemmas.List.Sums.{position_or_len_is}
use Rattle.std.specs.List.{position_or_len}
use Rattle.sj_draw.specs.Words.{before, behind}

-- a rest is whole
take_rest : (n : ℕ) (xs : List ℕ) → take (length xs - n) (drop n xs) ≡ drop n xs
take_rest n xs = ap (λ k. take k (drop n xs)) (sym (length-drop n xs)) ∙ take-length (drop n xs)

module _ (at : ℕ) (text : List ℕ) (i : ℕ) (not_yet : (k : ℕ) → k < i → eqb (get_or text k 0) at ≡ false) where
  found : i < length text → get_or text i 0 ≡ at → position_or_len (λ b. eqb b at) text ≡ i
  found h e = position_or_len_is (λ b. eqb b at) text i 0 (omega (arith, h)) not_yet (λ _. search (rules, e))

  none : length text ≡ i → position_or_len (λ b. eqb b at) text ≡ length text
  none e = position_or_len_is (λ b. eqb b at) text i 0 (omega (arith, e)) not_yet (λ h. absurd (omega (arith, h, e))) ∙ sym e

  pub before_found : i < length text → get_or text i 0 ≡ at → take i text ≡ before at text
  before_found h e = ap (λ n. take n text) (sym (found h e))

  pub behind_found : i < length text → get_or text i 0 ≡ at → take (length text - (i + 1)) (drop (i + 1) text) ≡ behind at text
  behind_found h e = take_rest (i + 1) text ∙ ap (λ n. drop (n + 1) text) (sym (found h e))

  pub before_none : length text ≡ i → text ≡ before at text
  before_none e = sym (ap (λ n. take n text) (none e) ∙ take-length text)

  pub behind_none : length text ≡ i → [] ≡ behind at text
  behind_none e = sym (ap (λ n. drop (n + 1) text) (none e) ∙ drop_of_length-le text {i = length text + 1} (omega arith))
