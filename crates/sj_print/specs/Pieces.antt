-- The words of a line, each as what it names in the file.
use Rattle.std.specs.Prelude.{ℕ, List, [], ◌∷◌, ◌++◌, decimal, map}
use Rattle.sj_lang.specs.FileAt.{FileAt}
use Rattle.sj_base.specs.declared.Msg.{Msg}
use Rattle.sj_semantics.specs.Lines.{word_at, quoted_at, name_of, end_text, int_text, message_words}
use Rattle.sj_print.specs.LogLine.{resend_word}
use Rattle.sj_print.specs.declared.pieces.Piece.{Piece}
use Rattle.sj_print.specs.declared.pieces.Piece.TheVariants.{Plain, Number, Int, End, Party, Word, Text, Resend}

-- the bytes of a piece
abbrev pub piece_text : FileAt → Piece → List ℕ
piece_text file (Plain bytes) = bytes.now
piece_text file (Number n) = decimal n
piece_text file (Int n) = int_text n
piece_text file (End e) = end_text e.sess e.side
piece_text file (Party p) = name_of file p
piece_text file (Word n) = word_at file.words n
piece_text file (Text n) = quoted_at file.texts n
piece_text file (Resend n) = resend_word n

-- each word with a space after it
abbrev pub closed_words : List (List ℕ) → List ℕ
closed_words [] = []
closed_words (x ∷ xs) = x ++ 32 ∷ closed_words xs

-- each piece with a space after it
abbrev pub spaced_text : FileAt → List Piece → List ℕ
spaced_text file ps = closed_words (map (piece_text file) ps)

-- words with a space between each two
abbrev pub words_text : List (List ℕ) → List ℕ
words_text [] = []
words_text (x ∷ []) = x
words_text (x ∷ y ∷ xs) = x ++ 32 ∷ words_text (y ∷ xs)

-- the text of a message
abbrev pub message_text : FileAt → Msg → List ℕ
message_text file m = words_text (message_words file m)
