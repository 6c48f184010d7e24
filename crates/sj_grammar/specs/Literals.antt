-- Tokens that stand for values: numbers and texts.
use Rattle.std.specs.Prelude.{ℕ, ◌-◌, Bool, not, ◌&&◌, nat_le, nat_lt, List, [], ◌∷◌, ◌++◌, length, take, drop, codes}
use Rattle.std.specs.List.{list_all}
use Rattle.std.specs.Str.{bytes_eq}
use Rattle.std.specs.Str.Parse.{digits_value}
use Rattle.sj_grammar.specs.Bytes.{is_digit, is_printable, quote_byte}
use Rattle.sj_grammar.specs.Lexis.{has_leading_zero, most}

-- digits without a leading zero, up to 2^63
abbrev pub is_number : List ℕ → Bool
is_number s = nat_lt 0 (length s) && (list_all is_digit s && (not (has_leading_zero s) && nat_le (digits_value 10 s) most))

-- the one number that stands only after a factor's minus
abbrev pub is_largest : List ℕ → Bool
is_largest s = bytes_eq s (codes "9223372036854775808")

-- a text with its quotes
abbrev pub quoted : List ℕ → List ℕ
quoted t = quote_byte ∷ (t ++ quote_byte ∷ [])

-- a text without its quotes
abbrev pub inner : List ℕ → List ℕ
inner s = drop 1 (take (length s - 1) s)

abbrev pub is_text : List ℕ → Bool
is_text s = bytes_eq s (quoted (inner s)) && list_all is_printable (inner s)
