-- No line of a file begins with a percent sign: outside comments and texts in quotes it has none, and these end with their line.
use Rattle.std.proofs.Common.{◌≡◌, ℕ, ◌+◌, Bool, true, false, List, [], ◌∷◌, length, drop, if◌then◌else◌, refl, sym, subst}
use Rattle.std.specs.Prelude.{◌==◌, ◌&&◌, ◌||◌, not, nat_lt}
use Rattle.std.specs.List.{prefix_len, take_while}
use Rattle.std.specs.Str.Parse.{digits_value}
use Rattle.sj_grammar.specs.declared.tokens.What.{What}
use Rattle.sj_grammar.specs.declared.tokens.What.TheVariants.{Word, Number, Text, Symbol}
use Rattle.sj_grammar.specs.declared.tokens.Rule.TheVariants.{P2, P3, P5}
use Rattle.sj_grammar.specs.Bytes.{is_blank, is_letter, is_digit, is_word_byte, is_inside, is_printable, is_comment, is_symbol, begins_with}
use Rattle.sj_grammar.specs.Lexis.{Ahead, at_end, bad, token, cut, has_leading_zero, most, number_of, text_of, token_of, next_of, after_slash, in_comment}
use Rattle.sj_legible_laws.proofs.TokenLemmas.{IsFree, other_byte, same_line, free_token}

-- blanks and comments, and then what is ahead
abbrev EndsFree : Ahead → Type 0
EndsFree at_end = Unit {0}
EndsFree (bad rule rest) = ⊥
EndsFree (token what s rest) = IsFree false rest

number_ahead : (x : Bool) (w : What) (n : ℕ) (text : List ℕ) → (if x then bad P3 text else cut w n text) ≡ at_end → ⊥
number_ahead true w n text e = cc
number_ahead false w n text e = cc

text_ahead : (x y : Bool) (n k : ℕ) (bs : List ℕ) → (if x then bad P5 (34 ∷ bs) else (if y then bad P2 (drop n bs) else cut Text k (34 ∷ bs))) ≡ at_end → ⊥
text_ahead true y n k bs e = cc
text_ahead false true n k bs e = cc
text_ahead false false n k bs e = cc

-- a byte begins a token or a fault
some_ahead : (b : ℕ) (bs : List ℕ) → token_of (b ∷ bs) ≡ at_end → ⊥
some_ahead b bs e = by (is_letter b) (is_digit b) (b == 34) ((b == 60 || b == 61) && begins_with 61 bs) (is_symbol b) e
  where
    by : (x y z u v : Bool)
        → (if x then cut Word (prefix_len is_word_byte (b ∷ bs)) (b ∷ bs) else (if y then number_of (take_while is_digit (b ∷ bs)) (b ∷ bs)
        else (if z then text_of (prefix_len is_inside bs) bs else (if u then cut Symbol 2 (b ∷ bs) else (if v then cut Symbol 1 (b ∷ bs) else bad P2 (b ∷ bs)))))) ≡ at_end → ⊥
    by true y z u v k = cc
    by false true z u v k =
        let ds : List ℕ = take_while is_digit (b ∷ bs) in number_ahead (has_leading_zero ds || nat_lt most (digits_value 10 ds)) (Number (digits_value 10 ds)) (length ds) (b ∷ bs) k
    by false false true u v k =
        let n : ℕ = prefix_len is_inside bs in text_ahead (not (begins_with 34 (drop n bs))) (nat_lt (prefix_len is_printable bs) n) (prefix_len is_printable bs) (n + 2) bs k
    by false false false true v k = cc
    by false false false false true k = cc
    by false false false false false k = cc

token_free : (at : Bool) (text : List ℕ) (x : Ahead) → token_of text ≡ x → EndsFree x → IsFree at text
token_free at [] x e free = tt
token_free at (b ∷ bs) (token what s rest) e free = free_token what s rest free at (b ∷ bs) e
token_free at (b ∷ bs) at_end e free = absurd (some_ahead b bs e)
token_free at (b ∷ bs) (bad rule rest) e free = absurd free

by_first : (at : Bool) (b : ℕ) (bs : List ℕ) (a : Ahead) → EndsFree a → ((at : Bool) → next_of bs ≡ a → IsFree at bs) → (after_slash bs ≡ a → IsFree false bs) → (x y : Bool) → is_blank b ≡ x → (b == 47) ≡ y
    → (if x then next_of bs else (if y then after_slash bs else token_of (b ∷ bs))) ≡ a → IsFree at (b ∷ bs)
by_first at b bs a free more slash true y ex ey e = (λ k. other_byte is_blank b 37 refl ex, more (b == 10) e)
by_first at b bs a free more slash false true ex ey e = (λ k. other_byte (λ c. c == 47) b 37 refl ey, same_line b bs (other_byte (λ c. c == 47) b 10 refl ey) (slash e))
by_first at b bs a free more slash false false ex ey e = token_free at (b ∷ bs) a e free

by_second : (c : ℕ) (cs : List ℕ) (a : Ahead) → EndsFree a → (in_comment cs ≡ a → IsFree false cs) → (x : Bool) → (c == 47) ≡ x → (if x then in_comment cs else bad P2 (47 ∷ c ∷ cs)) ≡ a → IsFree false (c ∷ cs)
by_second c cs a free more true ex e = (λ k. cc, same_line c cs (other_byte (λ d. d == 47) c 10 refl ex) (more e))
by_second c cs a free more false ex e = absurd (subst EndsFree (sym e) free)

by_byte : (b : ℕ) (bs : List ℕ) (a : Ahead) → EndsFree a → (next_of bs ≡ a → IsFree true bs) → (in_comment bs ≡ a → IsFree false bs) → (x y : Bool) → (b == 10) ≡ x
    → (if x then next_of bs else (if y then in_comment bs else bad P2 (b ∷ bs))) ≡ a → IsFree false (b ∷ bs)
by_byte b bs a free out more true y ex e = (λ k. cc, subst (λ (t : Bool). IsFree t bs) (sym ex) (out e))
by_byte b bs a free out more false true ex e = (λ k. cc, subst (λ (t : Bool). IsFree t bs) (sym ex) (more e))
by_byte b bs a free out more false false ex e = absurd (subst EndsFree (sym e) free)

mutual
  pub next_free : (at : Bool) (text : List ℕ) (a : Ahead) → EndsFree a → next_of text ≡ a → IsFree at text
  next_free at [] a free e = tt
  next_free at (b ∷ bs) a free e = by_first at b bs a free (λ t k. next_free t bs a free k) (λ k. slash_free bs a free k) (is_blank b) (b == 47) refl refl e

  slash_free : (text : List ℕ) (a : Ahead) → EndsFree a → after_slash text ≡ a → IsFree false text
  slash_free [] a free e = tt
  slash_free (c ∷ cs) a free e = by_second c cs a free (λ k. comment_free cs a free k) (c == 47) refl e

  comment_free : (text : List ℕ) (a : Ahead) → EndsFree a → in_comment text ≡ a → IsFree false text
  comment_free [] a free e = tt
  comment_free (b ∷ bs) a free e = by_byte b bs a free (λ k. next_free true bs a free k) (λ k. comment_free bs a free k) (b == 10) (is_comment b) refl e
