-- No line of a token begins with a percent sign, and what stands after it begins no line.
use Rattle.std.proofs.Common.{◌≡◌, ◌≢◌, ℕ, zero, suc, ◌+◌, Bool, true, false, cond, List, [], ◌∷◌, length, take, drop, if◌then◌else◌, refl, ap, sym, ◌∙◌, subst, arith}
use Rattle.std.specs.Prelude.{◌==◌, ◌&&◌, ◌||◌, not, nat_lt}
use Rattle.std.specs.List.{prefix_len, take_while}
use Rattle.std.specs.Str.Parse.{digits_value}
use Rattle.std.proofs.lemmas.Bool.{and_parts, eqb-true}
use Rattle.sj_grammar.specs.declared.tokens.What.{What}
use Rattle.sj_grammar.specs.declared.tokens.What.TheVariants.{Word, Number, Text, Symbol}
use Rattle.sj_grammar.specs.declared.tokens.Rule.TheVariants.{P2, P3, P5}
use Rattle.sj_grammar.specs.Bytes.{is_letter, is_digit, is_word_byte, is_inside, is_printable, is_symbol, begins_with}
use Rattle.sj_grammar.specs.Lexis.{bad, token, cut, has_leading_zero, most, number_of, text_of, token_of}

-- no line begins so; whether the first byte begins one is given
abbrev pub IsFree : Bool → List ℕ → Type 0
IsFree at [] = Unit {0}
IsFree at (b ∷ bs) = (at ≡ true → b ≢ 37) × IsFree (b == 10) bs

-- a byte that is neither a newline nor a percent sign, by a test that both fail
pub other_byte : (p : ℕ → Bool) (b c : ℕ) → p c ≡ false → p b ≡ true → b ≢ c
other_byte p b c none is e = let clash : p b ≡ p c = ap p e in let no : true ≡ false = sym is ∙ clash ∙ none in cc

pub same_line : (b : ℕ) (bs : List ℕ) → b ≢ 10 → IsFree false bs → IsFree (b == 10) bs
same_line b bs other free = by (b == 10) refl
  where
    by : (t : Bool) → (b == 10) ≡ t → IsFree t bs
    by true is = absurd (other (eqb-true b 10 is))
    by false is = free

-- bytes of one kind, and what stands after them
free_run : (p : ℕ → Bool) → p 10 ≡ false → (xs : List ℕ) → IsFree false (drop (prefix_len p xs) xs) → IsFree false xs
free_run p none [] free = free
free_run p none (x ∷ xs) free = by (p x) refl free (free_run p none xs)
  where
    by : (t : Bool) → p x ≡ t → IsFree false (drop (cond t (1 + prefix_len p xs) 0) (x ∷ xs)) → (IsFree false (drop (prefix_len p xs) xs) → IsFree false xs) → IsFree false (x ∷ xs)
    by true is rest later =
        let same : 1 + prefix_len p xs ≡ suc (prefix_len p xs) = omega arith in
        (λ e. cc, same_line x xs (other_byte p x 10 none is) (later (subst (λ (n : ℕ). IsFree false (drop n (x ∷ xs))) same rest)))
    by false is rest later = rest

long_run : (p : ℕ → Bool) (xs : List ℕ) → length (take_while p xs) ≡ prefix_len p xs
long_run p [] = refl
long_run p (x ∷ xs) = by (p x) (long_run p xs)
  where
    by : (t : Bool) → length (take_while p xs) ≡ prefix_len p xs → length (take (cond t (1 + prefix_len p xs) 0) (x ∷ xs)) ≡ cond t (1 + prefix_len p xs) 0
    by true later =
        let same : 1 + prefix_len p xs ≡ suc (prefix_len p xs) = omega arith in
        ap (λ n. length (take n (x ∷ xs))) same ∙ ap suc later ∙ sym same
    by false later = refl

-- a line that begins with a letter, say, doesn't begin with a percent sign
begun : (p : ℕ → Bool) (at : Bool) (b : ℕ) (bs : List ℕ) → p 37 ≡ false → p b ≡ true → IsFree false (b ∷ bs) → IsFree at (b ∷ bs)
begun p at b bs none is free = (λ e. other_byte p b 37 none is, free.1)

-- what stands after a token that is cut off
behind : (w what : What) (n : ℕ) (text s rest : List ℕ) → cut w n text ≡ token what s rest → drop n text ≡ rest
behind w what n text s rest e = cc

letter_is_word : (b : ℕ) → is_letter b ≡ true → is_word_byte b ≡ true
letter_is_word b h = rw h refl

module _ (what : What) (s rest : List ℕ) (free : IsFree false rest) where
  free_cut : (w : What) (n : ℕ) (text : List ℕ) → cut w n text ≡ token what s rest → IsFree false (drop n text)
  free_cut w n text e = subst (IsFree false) (sym (behind w what n text s rest e)) free

  free_word : (at : Bool) (b : ℕ) (bs : List ℕ) → is_letter b ≡ true → cut Word (prefix_len is_word_byte (b ∷ bs)) (b ∷ bs) ≡ token what s rest → IsFree at (b ∷ bs)
  free_word at b bs is e = begun is_letter at b bs refl is (free_run is_word_byte refl (b ∷ bs) (free_cut Word (prefix_len is_word_byte (b ∷ bs)) (b ∷ bs) e))

  free_number : (at : Bool) (b : ℕ) (bs : List ℕ) → is_digit b ≡ true → number_of (take_while is_digit (b ∷ bs)) (b ∷ bs) ≡ token what s rest → IsFree at (b ∷ bs)
  free_number at b bs is e = by (has_leading_zero (take_while is_digit (b ∷ bs)) || nat_lt most (digits_value 10 (take_while is_digit (b ∷ bs)))) e
    where
      by : (x : Bool) → (if x then bad P3 (b ∷ bs) else cut (Number (digits_value 10 (take_while is_digit (b ∷ bs)))) (length (take_while is_digit (b ∷ bs))) (b ∷ bs)) ≡ token what s rest → IsFree at (b ∷ bs)
      by true k = let none : ⊥ = cc in absurd none
      by false k =
          begun is_digit at b bs refl is (free_run is_digit refl (b ∷ bs)
          (subst (λ (n : ℕ). IsFree false (drop n (b ∷ bs))) (long_run is_digit (b ∷ bs)) (free_cut (Number (digits_value 10 (take_while is_digit (b ∷ bs)))) (length (take_while is_digit (b ∷ bs))) (b ∷ bs) k)))

  -- the quote that closes a text, and what stands after it
  closing : (xs : List ℕ) → begins_with 34 xs ≡ true → IsFree false (drop 1 xs) → IsFree false xs
  closing [] is h = tt
  closing (x ∷ xs) is h = (λ e. cc, same_line x xs (other_byte (λ c. c == 34) x 10 refl is) h)

  drop_more : (n : ℕ) (xs : List ℕ) → drop (n + 1) xs ≡ drop 1 (drop n xs)
  drop_more zero xs = refl
  drop_more (suc n) [] = let same : suc n + 1 ≡ suc (n + 1) = omega arith in ap (λ (m : ℕ). drop m []) same
  drop_more (suc n) (x ∷ xs) = let same : suc n + 1 ≡ suc (n + 1) = omega arith in ap (λ (m : ℕ). drop m (x ∷ xs)) same ∙ drop_more n xs

  free_text : (at : Bool) (bs : List ℕ) → text_of (prefix_len is_inside bs) bs ≡ token what s rest → IsFree at (34 ∷ bs)
  free_text at bs e = by (begins_with 34 (drop (prefix_len is_inside bs) bs)) (nat_lt (prefix_len is_printable bs) (prefix_len is_inside bs)) refl e
    where
      by : (x y : Bool) → begins_with 34 (drop (prefix_len is_inside bs) bs) ≡ x
          → (if not x then bad P5 (34 ∷ bs) else (if y then bad P2 (drop (prefix_len is_printable bs) bs) else cut Text (prefix_len is_inside bs + 2) (34 ∷ bs))) ≡ token what s rest → IsFree at (34 ∷ bs)
      by false y is k = let none : ⊥ = cc in absurd none
      by true true is k = let none : ⊥ = cc in absurd none
      by true false is k =
          let n : ℕ = prefix_len is_inside bs in
          let same : n + 2 ≡ suc (n + 1) = omega arith in
          let after : IsFree false (drop (suc (n + 1)) (34 ∷ bs)) = subst (λ (m : ℕ). IsFree false (drop m (34 ∷ bs))) same (free_cut Text (n + 2) (34 ∷ bs) k) in
          (λ k clash. omega (arith, clash), free_run is_inside refl bs (closing (drop n bs) is (subst (IsFree false) (drop_more n bs) after)))

  free_double : (at : Bool) (b : ℕ) (bs : List ℕ) → ((b == 60 || b == 61) && begins_with 61 bs) ≡ true → cut Symbol 2 (b ∷ bs) ≡ token what s rest → IsFree at (b ∷ bs)
  free_double at b [] is e = (λ k. other_byte (λ c. (c == 60 || c == 61) && false) b 37 refl is, tt)
  free_double at b (c ∷ bs) is e =
      let parts = and_parts (b == 60 || b == 61) (c == 61) is in (
        λ k. other_byte (λ d. d == 60 || d == 61) b 37 refl parts.0,
        same_line b (c ∷ bs) (other_byte (λ d. d == 60 || d == 61) b 10 refl parts.0)
            (λ k. cc, same_line c bs (other_byte (λ d. d == 61) c 10 refl parts.1) (free_cut Symbol 2 (b ∷ c ∷ bs) e)),
      )

  free_symbol : (at : Bool) (b : ℕ) (bs : List ℕ) → is_symbol b ≡ true → cut Symbol 1 (b ∷ bs) ≡ token what s rest → IsFree at (b ∷ bs)
  free_symbol at b bs is e = (λ k. other_byte is_symbol b 37 refl is, same_line b bs (other_byte is_symbol b 10 refl is) (free_cut Symbol 1 (b ∷ bs) e))

  pub free_token : (at : Bool) (text : List ℕ) → token_of text ≡ token what s rest → IsFree at text
  free_token at [] e = tt
  free_token at (b ∷ bs) e = by (is_letter b) (is_digit b) (b == 34) ((b == 60 || b == 61) && begins_with 61 bs) (is_symbol b) refl refl refl refl refl e
    where
      by : (x y z u v : Bool) → is_letter b ≡ x → is_digit b ≡ y → (b == 34) ≡ z → ((b == 60 || b == 61) && begins_with 61 bs) ≡ u → is_symbol b ≡ v
          → (if x then cut Word (prefix_len is_word_byte (b ∷ bs)) (b ∷ bs) else (if y then number_of (take_while is_digit (b ∷ bs)) (b ∷ bs)
          else (if z then text_of (prefix_len is_inside bs) bs else (if u then cut Symbol 2 (b ∷ bs) else (if v then cut Symbol 1 (b ∷ bs) else bad P2 (b ∷ bs)))))) ≡ token what s rest → IsFree at (b ∷ bs)
      by true y z u v ex ey ez eu ev k = free_word at b bs ex k
      by false true z u v ex ey ez eu ev k = free_number at b bs ey k
      by false false true u v ex ey ez eu ev k = let quote : b ≡ 34 = eqb-true b 34 ez in subst (λ (c : ℕ). IsFree at (c ∷ bs)) (sym quote) (free_text at bs k)
      by false false false true v ex ey ez eu ev k = free_double at b bs eu k
      by false false false false true ex ey ez eu ev k = free_symbol at b bs ev k
      by false false false false false ex ey ez eu ev k = let none : ⊥ = cc in absurd none
