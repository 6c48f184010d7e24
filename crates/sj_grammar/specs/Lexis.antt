-- The next token of a text, by cases on the text.
use Rattle.std.specs.Prelude.{ℕ, ◌+◌, ◌^◌, Bool, not, ◌==◌, ◌&&◌, ◌||◌, nat_lt, List, [], ◌∷◌, length, take, drop, if◌then◌else◌}
use Rattle.std.specs.List.{prefix_len, take_while}
use Rattle.std.specs.Str.Parse.{digits_value}
use Rattle.sj_grammar.specs.declared.tokens.Rule.{Rule}
use Rattle.sj_grammar.specs.declared.tokens.What.{What}
use Rattle.sj_grammar.specs.declared.tokens.What.TheVariants.{Word, Number, Text, Symbol}
use Rattle.sj_grammar.specs.Bytes.{is_blank, is_letter, is_digit, is_word_byte, is_inside, is_printable, is_comment, is_symbol, is_double, begins_with, quote_byte}
use Rattle.sj_grammar.specs.Rules.{bad_byte, bad_number, open_text}

-- what comes next in a text
pub data Ahead : Type 0 where
  -- blanks and comments only
  at_end : Ahead
  -- no token can be read; the text from the position of the fault on
  bad : Rule → List ℕ → Ahead
  -- a token, its bytes, and the text after it
  token : What → List ℕ → List ℕ → Ahead

-- the first n bytes are the token
abbrev pub cut : What → ℕ → List ℕ → Ahead
cut what n text = token what (take n text) (drop n text)

-- a number that goes on after a zero
abbrev pub has_leading_zero : List ℕ → Bool
has_leading_zero ds = begins_with 48 ds && nat_lt 1 (length ds)

-- after a minus a number may be that
abbrev pub most : ℕ
most = 2 ^ 63

-- the digits that begin the text are a number
abbrev pub number_of : List ℕ → List ℕ → Ahead
number_of ds text =
    if has_leading_zero ds || nat_lt most (digits_value 10 ds) then bad bad_number text
    else cut (Number (digits_value 10 ds)) (length ds) text

-- after a quote: n bytes up to the next quote or the end of the line
abbrev pub text_of : ℕ → List ℕ → Ahead
text_of n bs =
    if not (begins_with quote_byte (drop n bs)) then bad open_text (quote_byte ∷ bs)
    else (if nat_lt (prefix_len is_printable bs) n then bad bad_byte (drop (prefix_len is_printable bs) bs)
    else cut Text (n + 2) (quote_byte ∷ bs))

-- the token that begins the text
abbrev pub token_of : List ℕ → Ahead
token_of [] = at_end
token_of (b ∷ bs) =
    if is_letter b then cut Word (prefix_len is_word_byte (b ∷ bs)) (b ∷ bs)
    else (if is_digit b then number_of (take_while is_digit (b ∷ bs)) (b ∷ bs)
    else (if b == quote_byte then text_of (prefix_len is_inside bs) bs
    else (if is_double b bs then cut Symbol 2 (b ∷ bs)
    else (if is_symbol b then cut Symbol 1 (b ∷ bs) else bad bad_byte (b ∷ bs)))))

-- after blanks and comments
abbrev mutual
  pub next_of : List ℕ → Ahead
  next_of [] = at_end
  next_of (b ∷ bs) = if is_blank b then next_of bs else (if b == 47 then after_slash bs else token_of (b ∷ bs))

  pub after_slash : List ℕ → Ahead
  after_slash [] = bad bad_byte (47 ∷ [])
  after_slash (c ∷ cs) = if c == 47 then in_comment cs else bad bad_byte (47 ∷ c ∷ cs)

  pub in_comment : List ℕ → Ahead
  in_comment [] = at_end
  in_comment (b ∷ bs) = if b == 10 then next_of bs else (if is_comment b then in_comment bs else bad bad_byte (b ∷ bs))
