-- Kinds of bytes that a token has in a row.
use Rattle.std.specs.Prelude.{ℕ, Bool}
use Rattle.sj_grammar.specs.Bytes.{is_word_byte, is_digit, is_inside, is_printable, is_comment}
use Rattle.sj_grammar.specs.declared.bytes.Class.{Class}
use Rattle.sj_grammar.specs.declared.bytes.Class.TheVariants.{WordByte, Digit, Inside, Printable, Comment}

abbrev pub in_class : Class → ℕ → Bool
in_class WordByte b = is_word_byte b
in_class Digit b = is_digit b
in_class Inside b = is_inside b
in_class Printable b = is_printable b
in_class Comment b = is_comment b
