-- A newline after a text changes none of its tokens.
use Rattle.std.proofs.Common.{◌≡◌, ℕ, zero, suc, ◌+◌, ◌<◌, ◌≤◌, Bool, true, false, cond, List, [], ◌∷◌, ◌++◌, length, take, drop, if◌then◌else◌, refl, ap, ap₂, ◌∙◌, arith}
use Rattle.std.specs.Prelude.{◌==◌, ◌&&◌, ◌||◌, not, nat_lt}
use Rattle.std.specs.List.{prefix_len, take_while}
use Rattle.std.specs.Str.Parse.{digits_value}
use Rattle.std.proofs.lemmas.Bool.{and_parts}
use Rattle.std.proofs.lemmas.List.{length-take-le, take-append-le}
use Rattle.sj_grammar.specs.declared.tokens.What.{What}
use Rattle.sj_grammar.specs.declared.tokens.What.TheVariants.{Word, Number, Text, Symbol}
use Rattle.sj_grammar.specs.declared.tokens.Rule.TheVariants.{P2, P3, P5}
use Rattle.sj_grammar.specs.Bytes.{is_blank, is_letter, is_digit, is_word_byte, is_inside, is_printable, is_comment, is_symbol, begins_with}
use Rattle.sj_grammar.specs.Lexis.{Ahead, at_end, bad, token, cut, has_leading_zero, most, number_of, text_of, token_of, next_of, after_slash, in_comment}

-- the text with a newline after it
abbrev pub ended : List ℕ → List ℕ
ended text = text ++ 10 ∷ []

-- what was ahead, with a newline after it
abbrev pub ended_ahead : Ahead → Ahead
ended_ahead at_end = at_end
ended_ahead (bad rule rest) = bad rule (ended rest)
ended_ahead (token what s rest) = token what s (ended rest)

same_prefix : (p : ℕ → Bool) → p 10 ≡ false → (xs : List ℕ) → prefix_len p (ended xs) ≡ prefix_len p xs
same_prefix p none [] = ap (λ (b : Bool). cond b (1 + 0) 0) none
same_prefix p none (x ∷ xs) = ap (λ n. cond (p x) (1 + n) 0) (same_prefix p none xs)

short_prefix : (p : ℕ → Bool) (xs : List ℕ) → prefix_len p xs ≤ length xs
short_prefix p [] = omega arith
short_prefix p (x ∷ xs) = by (p x) (short_prefix p xs)
  where
    by : (b : Bool) → prefix_len p xs ≤ length xs → cond b (1 + prefix_len p xs) 0 ≤ length (x ∷ xs)
    by true le = omega (arith, le)
    by false le = omega arith

pub same_front : (n : ℕ) (xs : List ℕ) → n ≤ length xs → take n (ended xs) ≡ take n xs
same_front n xs le = take-append-le n xs (10 ∷ []) le

same_back : (n : ℕ) (xs : List ℕ) → n ≤ length xs → drop n (ended xs) ≡ ended (drop n xs)
same_back zero xs le = refl
same_back (suc n) [] le = absurd (omega (arith, le))
same_back (suc n) (x ∷ xs) le = same_back n xs (omega (arith, le))

same_cut : (w : What) (n : ℕ) (xs : List ℕ) → n ≤ length xs → cut w n (ended xs) ≡ ended_ahead (cut w n xs)
same_cut w n xs le = ap₂ (λ s rest. token w s rest) (same_front n xs le) (same_back n xs le)

same_while : (p : ℕ → Bool) → p 10 ≡ false → (xs : List ℕ) → take_while p (ended xs) ≡ take_while p xs
same_while p none xs = ap (λ n. take n (ended xs)) (same_prefix p none xs) ∙ same_front (prefix_len p xs) xs (short_prefix p xs)

long_while : (p : ℕ → Bool) (xs : List ℕ) → length (take_while p xs) ≤ length xs
long_while p xs = omega (arith, length-take-le (prefix_len p xs) xs (short_prefix p xs), short_prefix p xs)

same_number : (b : ℕ) (bs : List ℕ) → number_of (take_while is_digit (ended (b ∷ bs))) (ended (b ∷ bs)) ≡ ended_ahead (number_of (take_while is_digit (b ∷ bs)) (b ∷ bs))
same_number b bs = ap (λ ds. number_of ds (ended (b ∷ bs))) (same_while is_digit refl (b ∷ bs)) ∙ by (has_leading_zero ds || nat_lt most (digits_value 10 ds))
  where
    ds : List ℕ
    ds = take_while is_digit (b ∷ bs)

    by : (x : Bool) → (if x then bad P3 (ended (b ∷ bs)) else cut (Number (digits_value 10 ds)) (length ds) (ended (b ∷ bs)))
        ≡ ended_ahead (if x then bad P3 (b ∷ bs) else cut (Number (digits_value 10 ds)) (length ds) (b ∷ bs))
    by true = refl
    by false = same_cut (Number (digits_value 10 ds)) (length ds) (b ∷ bs) (long_while is_digit (b ∷ bs))

-- a text that is closed on its line stays so; one that isn't stays open
same_begin : (c : ℕ) (xs : List ℕ) → (10 == c) ≡ false → begins_with c (ended xs) ≡ begins_with c xs
same_begin c [] none = none
same_begin c (x ∷ xs) none = refl

same_text : (bs : List ℕ) → text_of (prefix_len is_inside (ended bs)) (ended bs) ≡ ended_ahead (text_of (prefix_len is_inside bs) bs)
same_text bs = ap (λ k. text_of k (ended bs)) (same_prefix is_inside refl bs) ∙ ap₂ tests begins (ap (λ m. nat_lt m n) (same_prefix is_printable refl bs)) ∙ by (begins_with 34 (drop n bs)) refl (nat_lt (prefix_len is_printable bs) n)
  where
    n : ℕ
    n = prefix_len is_inside bs

    tests : Bool → Bool → Ahead
    tests x y = if not x then bad P5 (34 ∷ ended bs) else (if y then bad P2 (drop (prefix_len is_printable (ended bs)) (ended bs)) else cut Text (n + 2) (34 ∷ ended bs))

    begins : begins_with 34 (drop n (ended bs)) ≡ begins_with 34 (drop n bs)
    begins = ap (begins_with 34) (same_back n bs (short_prefix is_inside bs)) ∙ same_begin 34 (drop n bs) refl

    by : (x : Bool) → begins_with 34 (drop n bs) ≡ x → (y : Bool)
        → tests x y ≡ ended_ahead (if not x then bad P5 (34 ∷ bs) else (if y then bad P2 (drop (prefix_len is_printable bs) bs) else cut Text (n + 2) (34 ∷ bs)))
    by false is y = refl
    by true is true =
        ap (λ rest. bad P2 rest) (ap (λ m. drop m (ended bs)) (same_prefix is_printable refl bs) ∙ same_back (prefix_len is_printable bs) bs (short_prefix is_printable bs))
    by true is false = same_cut Text (n + 2) (34 ∷ bs) (let more = closed n bs is in omega (arith, more))
      where
        closed : (k : ℕ) (xs : List ℕ) → begins_with 34 (drop k xs) ≡ true → k < length xs
        closed zero [] h = let none : ⊥ = cc in absurd none
        closed (suc k) [] h = let none : ⊥ = cc in absurd none
        closed zero (x ∷ xs) h = omega arith
        closed (suc k) (x ∷ xs) h = let more = closed k xs h in omega (arith, more)

same_token : (b : ℕ) (bs : List ℕ) → token_of (b ∷ ended bs) ≡ ended_ahead (token_of (b ∷ bs))
same_token b bs =
    ap (λ t. tests (is_letter b) (is_digit b) (b == 34) ((b == 60 || b == 61) && t) (is_symbol b)) (same_begin 61 bs refl)
    ∙ by (is_letter b) (is_digit b) (b == 34) ((b == 60 || b == 61) && begins_with 61 bs) (is_symbol b) refl
  where
    tests : (x y z u v : Bool) → Ahead
    tests x y z u v =
        if x then cut Word (prefix_len is_word_byte (b ∷ ended bs)) (b ∷ ended bs) else (if y then number_of (take_while is_digit (b ∷ ended bs)) (b ∷ ended bs)
        else (if z then text_of (prefix_len is_inside (ended bs)) (ended bs) else (if u then cut Symbol 2 (b ∷ ended bs) else (if v then cut Symbol 1 (b ∷ ended bs) else bad P2 (b ∷ ended bs)))))

    two : (xs : List ℕ) → begins_with 61 xs ≡ true → 0 < length xs
    two [] h = let none : ⊥ = cc in absurd none
    two (x ∷ xs) h = omega arith

    by : (x y z u v : Bool) → ((b == 60 || b == 61) && begins_with 61 bs) ≡ u → tests x y z u v ≡ ended_ahead (
        if x then cut Word (prefix_len is_word_byte (b ∷ bs)) (b ∷ bs) else (if y then number_of (take_while is_digit (b ∷ bs)) (b ∷ bs)
        else (if z then text_of (prefix_len is_inside bs) bs else (if u then cut Symbol 2 (b ∷ bs) else (if v then cut Symbol 1 (b ∷ bs) else bad P2 (b ∷ bs))))))
    by true y z u v is =
        ap (λ n. cut Word n (b ∷ ended bs)) (same_prefix is_word_byte refl (b ∷ bs)) ∙ same_cut Word (prefix_len is_word_byte (b ∷ bs)) (b ∷ bs) (short_prefix is_word_byte (b ∷ bs))
    by false true z u v is = same_number b bs
    by false false true u v is = same_text bs
    by false false false true v is = same_cut Symbol 2 (b ∷ bs) (let some = two bs (and_parts (b == 60 || b == 61) (begins_with 61 bs) is).1 in omega (arith, some))
    by false false false false true is = same_cut Symbol 1 (b ∷ bs) (omega arith)
    by false false false false false is = refl

first_same : (b : ℕ) (bs : List ℕ) → next_of (ended bs) ≡ ended_ahead (next_of bs) → after_slash (ended bs) ≡ ended_ahead (after_slash bs) → (x y : Bool)
    → (if x then next_of (ended bs) else (if y then after_slash (ended bs) else token_of (b ∷ ended bs))) ≡ ended_ahead (if x then next_of bs else (if y then after_slash bs else token_of (b ∷ bs)))
first_same b bs more slash true y = more
first_same b bs more slash false true = slash
first_same b bs more slash false false = same_token b bs

second_same : (c : ℕ) (cs : List ℕ) → in_comment (ended cs) ≡ ended_ahead (in_comment cs) → (x : Bool)
    → (if x then in_comment (ended cs) else bad P2 (47 ∷ c ∷ ended cs)) ≡ ended_ahead (if x then in_comment cs else bad P2 (47 ∷ c ∷ cs))
second_same c cs more true = more
second_same c cs more false = refl

byte_same : (b : ℕ) (bs : List ℕ) → next_of (ended bs) ≡ ended_ahead (next_of bs) → in_comment (ended bs) ≡ ended_ahead (in_comment bs) → (x y : Bool)
    → (if x then next_of (ended bs) else (if y then in_comment (ended bs) else bad P2 (b ∷ ended bs))) ≡ ended_ahead (if x then next_of bs else (if y then in_comment bs else bad P2 (b ∷ bs)))
byte_same b bs out more true y = out
byte_same b bs out more false true = more
byte_same b bs out more false false = refl

mutual
  pub same_next : (text : List ℕ) → next_of (ended text) ≡ ended_ahead (next_of text)
  same_next [] = refl
  same_next (b ∷ bs) = first_same b bs (same_next bs) (same_slash bs) (is_blank b) (b == 47)

  same_slash : (text : List ℕ) → after_slash (ended text) ≡ ended_ahead (after_slash text)
  same_slash [] = refl
  same_slash (c ∷ cs) = second_same c cs (same_comment cs) (c == 47)

  same_comment : (text : List ℕ) → in_comment (ended text) ≡ ended_ahead (in_comment text)
  same_comment [] = refl
  same_comment (b ∷ bs) = byte_same b bs (same_next bs) (same_comment bs) (b == 10) (is_comment b)
