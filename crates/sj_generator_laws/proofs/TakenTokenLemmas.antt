-- The tokens of the generated text are taken one after another, whatever stands after them.
use Rattle.std.proofs.Common.{◌≡◌, ℕ, zero, suc, ◌+◌, Bool, true, false, List, [], ◌∷◌, ◌++◌, drop, get_or, refl, ap, ◌∙◌}
use Rattle.std.specs.Prelude.{if◌then◌else◌, not, ◌==◌, ◌&&◌}
use Rattle.std.specs.List.{list_all}
use Rattle.std.specs.Str.Parse.{digits_value}
use Rattle.std.proofs.lemmas.Bool.{ne_eqb}
use Rattle.sj_grammar.specs.declared.tokens.What.TheVariants.{Number}
use Rattle.sj_grammar.specs.Bytes.{is_word_byte}
use Rattle.sj_grammar.specs.Lexis.{Ahead, at_end, token, next_of}
use Rattle.sj_grammar.proofs.LexingLemmas.{NoWordByte, word_next}
use Rattle.sj_generator_laws.proofs.TokenRunLemmas.{Tok, text_of, AreTaken}
use Rattle.sj_generator_laws.proofs.GroupTokenLemmas.{protocol_tokens, sender_tokens, giver_tokens, adder_tokens, connect_tokens}
use Rattle.sj_grammar.proofs.PositionLemmas.{lines_from as line_behind}

-- digits that are read as a number
pub record AreRead (d : List ℕ) : Type 0 where
  pub next : (rest : List ℕ) → NoWordByte rest → next_of (d ++ rest) ≡ token (Number (digits_value 10 d)) d rest
  pub line : (l : ℕ) → line_behind l d ≡ l

-- bytes of a kind that a newline isn't
pub no_newline : (p : ℕ → Bool) → p 10 ≡ false → (l : ℕ) (e : List ℕ) → list_all p e ≡ true → line_behind l e ≡ l
no_newline p other l [] h = refl
no_newline p other l (b ∷ e) h = by_test (p b) refl h (no_newline p other l e)
  where
    by_test : (x : Bool) → p b ≡ x → (x && list_all p e) ≡ true → (list_all p e ≡ true → line_behind l e ≡ l) → line_behind l (b ∷ e) ≡ l
    by_test true is t more = ap (λ y. line_behind (if y then l + 1 else l) e) (ne_eqb b 10 (λ same. let both : p b ≡ p 10 = ap p same in cc)) ∙ more t
    by_test false is t more = cc

one_line : (b : ℕ) (e : List ℕ) → is_word_byte b ≡ true → list_all is_word_byte e ≡ true → (l : ℕ) → line_behind l (b ∷ e) ≡ l
one_line b e first named l = no_newline is_word_byte refl l (b ∷ e) (λ i. first i && named i)

-- ---- tokens that are found by computing alone

-- what comes next at each of the first n tokens
abbrev found : ℕ → List Tok → List ℕ → List Ahead
found zero ks rest = []
found (suc n) [] rest = []
found (suc n) (k ∷ ks) rest = next_of (k.gap ++ (k.spelled ++ (text_of ks ++ rest))) ∷ found n ks rest

-- what is to come there
abbrev wanted : ℕ → List Tok → List ℕ → List Ahead
wanted zero ks rest = []
wanted (suc n) [] rest = []
wanted (suc n) (k ∷ ks) rest = token k.what k.spelled (text_of ks ++ rest) ∷ wanted n ks rest

abbrev is_inside_line : ℕ → Bool
is_inside_line b = not (b == 10)

abbrev are_inside_lines : ℕ → List Tok → Bool
are_inside_lines zero ks = true
are_inside_lines (suc n) [] = true
are_inside_lines (suc n) (k ∷ ks) = list_all is_inside_line k.spelled && are_inside_lines n ks

both_hold : (b c : Bool) → (b && c) ≡ true → (b ≡ true) × (c ≡ true)
both_hold true true t = (refl, refl)
both_hold true false t = cc
both_hold false c t = cc

-- the first n tokens, and then those after them
by_computing : (n : ℕ) (ks : List Tok) (rest : List ℕ) → found n ks rest ≡ wanted n ks rest → are_inside_lines n ks ≡ true → AreTaken (drop n ks) rest → AreTaken ks rest
by_computing zero ks rest is lines more = more
by_computing (suc n) [] rest is lines more = more
by_computing (suc n) (k ∷ ks) rest is lines more =
    let held : (list_all is_inside_line k.spelled ≡ true) × (are_inside_lines n ks ≡ true) = both_hold _ _ lines in
    (ap (λ xs. get_or xs 0 at_end) is, λ l. no_newline is_inside_line refl l k.spelled held.0, by_computing n ks rest (ap (drop 1) is) held.1 more)

-- ---- the tokens of a group; its digit is part of a word

module _ (e : List ℕ) (named : list_all is_word_byte e ≡ true) (rest : List ℕ) where
  pub sender_taken : (d v : List ℕ) → AreRead d → AreRead v → AreTaken (sender_tokens e d v) rest
  sender_taken d v is_d is_v =
      let ks = sender_tokens e d v in
      let behind_v : AreTaken (drop 10 ks) rest = by_computing 11 (drop 10 ks) rest refl refl tt in
      let from_v : AreTaken (drop 9 ks) rest = (is_v.next _ refl, is_v.line, behind_v) in
      let from_d : AreTaken (drop 5 ks) rest = (is_d.next _ refl, is_d.line, by_computing 3 (drop 6 ks) rest refl refl from_v) in
      let from_name : AreTaken (drop 1 ks) rest = (word_next (97 ∷ e) _ named refl, one_line 97 e refl named, by_computing 3 (drop 2 ks) rest refl refl from_d) in
      by_computing 1 ks rest refl refl from_name

  pub giver_taken : AreTaken (giver_tokens e) rest
  giver_taken =
      let ks = giver_tokens e in
      let from_name : AreTaken (drop 1 ks) rest = (word_next (98 ∷ e) _ named refl, one_line 98 e refl named, by_computing 9 (drop 2 ks) rest refl refl tt) in
      by_computing 1 ks rest refl refl from_name

  pub adder_taken : AreTaken (adder_tokens e) rest
  adder_taken =
      let ks = adder_tokens e in
      let from_name : AreTaken (drop 1 ks) rest = (word_next (99 ∷ e) _ named refl, one_line 99 e refl named, by_computing 39 (drop 2 ks) rest refl refl tt) in
      by_computing 1 ks rest refl refl from_name

  pub connect_taken : AreTaken (connect_tokens e) rest
  connect_taken =
      let ks = connect_tokens e in
      let from_third : AreTaken (drop 14 ks) rest = (word_next (99 ∷ e) _ named refl, one_line 99 e refl named, by_computing 3 (drop 15 ks) rest refl refl tt) in
      let from_second : AreTaken (drop 10 ks) rest = (word_next (98 ∷ e) _ named refl, one_line 98 e refl named, by_computing 3 (drop 11 ks) rest refl refl from_third) in
      let from_other : AreTaken (drop 5 ks) rest = (word_next (98 ∷ e) _ named refl, one_line 98 e refl named, by_computing 4 (drop 6 ks) rest refl refl from_second) in
      let from_first : AreTaken (drop 1 ks) rest = (word_next (97 ∷ e) _ named refl, one_line 97 e refl named, by_computing 3 (drop 2 ks) rest refl refl from_other) in
      by_computing 1 ks rest refl refl from_first

pub protocol_taken : (rest : List ℕ) → AreTaken protocol_tokens (10 ∷ rest)
protocol_taken rest = by_computing 82 protocol_tokens (10 ∷ rest) refl refl tt
