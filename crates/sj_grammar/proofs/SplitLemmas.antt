-- A token's bytes stand in the text.
use Rattle.std.proofs.Common.{◌≡◌, ◌≢◌, ℕ, zero, suc, ◌+◌, ◌<◌, Bool, true, false, List, [], ◌∷◌, ◌++◌, length, take, drop, refl, ap, sym, subst, ◌∙◌, arith}
use Rattle.std.specs.Prelude.{if◌then◌else◌, ◌==◌, ◌||◌, ◌&&◌, not, nat_lt}
use Rattle.std.specs.List.{prefix_len, take_while}
use Rattle.std.specs.Str.Parse.{digits_value}
use Rattle.std.proofs.lemmas.Bool.Decides.{Decides-eqb}
use Rattle.std.proofs.lemmas.List.{take-append-drop}
use Rattle.sj_grammar.specs.declared.tokens.What.{What}
use Rattle.sj_grammar.specs.declared.tokens.What.TheVariants.{Word, Number, Text, Symbol, End}
use Rattle.sj_grammar.specs.declared.tokens.Rule.TheVariants.{P2, P3, P5}
use Rattle.sj_grammar.specs.Bytes.{is_blank, is_letter, is_digit, is_word_byte, is_inside, is_printable, is_comment, is_symbol, begins_with}
use Rattle.sj_grammar.specs.Lexis.{bad, token, cut, has_leading_zero, most, number_of, text_of, token_of, next_of, after_slash, in_comment}

-- blanks and comments, then the token, then the rest
pub record IsSplit (text : List ℕ) (what : What) (s rest : List ℕ) : Type 0 where
  pub skipped : List ℕ
  pub whole : text ≡ skipped ++ (s ++ rest)
  pub some : 0 < length s
  -- the end is no token
  pub other : what ≢ End

split_more : (b : ℕ) (bs : List ℕ) (what : What) (s rest : List ℕ) → IsSplit bs what s rest → IsSplit (b ∷ bs) what s rest
split_more b bs what s rest h = record { skipped = b ∷ h.skipped; whole = ap (λ t. b ∷ t) h.whole; some = h.some; other = h.other }

take_some : (n b : ℕ) (bs : List ℕ) → 0 < n → 0 < length (take n (b ∷ bs))
take_some zero b bs h = absurd (omega arith)
take_some (suc n) b bs h = omega arith

cut_split : (w what : What) (n b : ℕ) (bs s rest : List ℕ) → 0 < n → w ≢ End → cut w n (b ∷ bs) ≡ token what s rest → IsSplit (b ∷ bs) what s rest
cut_split w what n b bs s rest some kind e =
    let sort : w ≡ what = cc in
    let bytes : take n (b ∷ bs) ≡ s = cc in
    let after : drop n (b ∷ bs) ≡ rest = cc in
    record {
      skipped = [];
      whole = sym (take-append-drop n (b ∷ bs)) ∙ (λ i. bytes i ++ after i);
      some = subst (λ (t : List ℕ). 0 < length t) bytes (take_some n b bs some);
      other = λ f. kind (sort ∙ f);
    }

number_split : (ds : List ℕ) (what : What) (b : ℕ) (bs s rest : List ℕ) → 0 < length ds → number_of ds (b ∷ bs) ≡ token what s rest → IsSplit (b ∷ bs) what s rest
number_split ds what b bs s rest some e = by_test (has_leading_zero ds || nat_lt most (digits_value 10 ds)) e
  where
    by_test : (x : Bool) → (if x then bad P3 (b ∷ bs) else cut (Number (digits_value 10 ds)) (length ds) (b ∷ bs)) ≡ token what s rest → IsSplit (b ∷ bs) what s rest
    by_test true e = let none : ⊥ = cc in absurd none
    by_test false e = cut_split (Number (digits_value 10 ds)) what (length ds) b bs s rest some (λ f. cc) e

text_split : (n : ℕ) (what : What) (bs s rest : List ℕ) → text_of n bs ≡ token what s rest → IsSplit (34 ∷ bs) what s rest
text_split n what bs s rest e = by_tests (not (begins_with 34 (drop n bs))) (nat_lt (prefix_len is_printable bs) n) e
  where
    by_tests : (x y : Bool) → (if x then bad P5 (34 ∷ bs) else (if y then bad P2 (drop (prefix_len is_printable bs) bs) else cut Text (n + 2) (34 ∷ bs))) ≡ token what s rest → IsSplit (34 ∷ bs) what s rest
    by_tests true y e = let none : ⊥ = cc in absurd none
    by_tests false true e = let none : ⊥ = cc in absurd none
    by_tests false false e = cut_split Text what (n + 2) 34 bs s rest (omega arith) (λ f. cc) e

word_some : (b : ℕ) (bs : List ℕ) → is_letter b ≡ true → 0 < prefix_len is_word_byte (b ∷ bs)
word_some b bs e = rw e (omega arith)

digits_some : (b : ℕ) (bs : List ℕ) → is_digit b ≡ true → 0 < length (take_while is_digit (b ∷ bs))
digits_some b bs e = let some : 0 < prefix_len is_digit (b ∷ bs) = rw e (omega arith) in take_some (prefix_len is_digit (b ∷ bs)) b bs some

token_split : (text : List ℕ) (what : What) (s rest : List ℕ) → token_of text ≡ token what s rest → IsSplit text what s rest
token_split [] what s rest e = let none : ⊥ = cc in absurd none
token_split (b ∷ bs) what s rest e = by_tests (is_letter b) (is_digit b) (b == 34) ((b == 60 || b == 61) && begins_with 61 bs) (is_symbol b) refl refl refl e
  where
    by_tests : (x y z u v : Bool) → is_letter b ≡ x → is_digit b ≡ y → (b == 34) ≡ z
        → (if x then cut Word (prefix_len is_word_byte (b ∷ bs)) (b ∷ bs) else (if y then number_of (take_while is_digit (b ∷ bs)) (b ∷ bs)
        else (if z then text_of (prefix_len is_inside bs) bs else (if u then cut Symbol 2 (b ∷ bs) else (if v then cut Symbol 1 (b ∷ bs) else bad P2 (b ∷ bs)))))) ≡ token what s rest → IsSplit (b ∷ bs) what s rest
    by_tests true y z u v ex ey ez e = cut_split Word what (prefix_len is_word_byte (b ∷ bs)) b bs s rest (word_some b bs ex) (λ f. cc) e
    by_tests false true z u v ex ey ez e = number_split (take_while is_digit (b ∷ bs)) what b bs s rest (digits_some b bs ey) e
    by_tests false false true u v ex ey ez e = let quote : b ≡ 34 = (Decides-eqb b 34).0 ez in subst (λ (c : ℕ). IsSplit (c ∷ bs) what s rest) (sym quote) (text_split (prefix_len is_inside bs) what bs s rest e)
    by_tests false false false true v ex ey ez e = cut_split Symbol what 2 b bs s rest (omega arith) (λ f. cc) e
    by_tests false false false false true ex ey ez e = cut_split Symbol what 1 b bs s rest (omega arith) (λ f. cc) e
    by_tests false false false false false ex ey ez e = let none : ⊥ = cc in absurd none

-- by what the first byte is
by_first : (b : ℕ) (bs : List ℕ) (what : What) (s rest : List ℕ) → (next_of bs ≡ token what s rest → IsSplit bs what s rest) → (after_slash bs ≡ token what s rest → IsSplit bs what s rest) → (x y : Bool)
    → (if x then next_of bs else (if y then after_slash bs else token_of (b ∷ bs))) ≡ token what s rest → IsSplit (b ∷ bs) what s rest
by_first b bs what s rest more slash true y e = split_more b bs what s rest (more e)
by_first b bs what s rest more slash false true e = split_more b bs what s rest (slash e)
by_first b bs what s rest more slash false false e = token_split (b ∷ bs) what s rest e

by_second : (c : ℕ) (cs : List ℕ) (what : What) (s rest : List ℕ) → (in_comment cs ≡ token what s rest → IsSplit cs what s rest) → (x : Bool) → (if x then in_comment cs else bad P2 (47 ∷ c ∷ cs)) ≡ token what s rest → IsSplit (c ∷ cs) what s rest
by_second c cs what s rest more true e = split_more c cs what s rest (more e)
by_second c cs what s rest more false e = let none : ⊥ = cc in absurd none

by_byte : (b : ℕ) (bs : List ℕ) (what : What) (s rest : List ℕ) → (next_of bs ≡ token what s rest → IsSplit bs what s rest) → (in_comment bs ≡ token what s rest → IsSplit bs what s rest) → (x y : Bool)
    → (if x then next_of bs else (if y then in_comment bs else bad P2 (b ∷ bs))) ≡ token what s rest → IsSplit (b ∷ bs) what s rest
by_byte b bs what s rest out more true y e = split_more b bs what s rest (out e)
by_byte b bs what s rest out more false true e = split_more b bs what s rest (more e)
by_byte b bs what s rest out more false false e = let none : ⊥ = cc in absurd none

mutual
  pub next_split : (text : List ℕ) (what : What) (s rest : List ℕ) → next_of text ≡ token what s rest → IsSplit text what s rest
  next_split [] what s rest e = let none : ⊥ = cc in absurd none
  next_split (b ∷ bs) what s rest e = by_first b bs what s rest (next_split bs what s rest) (slash_split bs what s rest) (is_blank b) (b == 47) e

  slash_split : (text : List ℕ) (what : What) (s rest : List ℕ) → after_slash text ≡ token what s rest → IsSplit text what s rest
  slash_split [] what s rest e = let none : ⊥ = cc in absurd none
  slash_split (c ∷ cs) what s rest e = by_second c cs what s rest (comment_split cs what s rest) (c == 47) e

  comment_split : (text : List ℕ) (what : What) (s rest : List ℕ) → in_comment text ≡ token what s rest → IsSplit text what s rest
  comment_split [] what s rest e = let none : ⊥ = cc in absurd none
  comment_split (b ∷ bs) what s rest e = by_byte b bs what s rest (next_split bs what s rest) (comment_split bs what s rest) (b == 10) (is_comment b) e
