-- Words with a space between each two.
use Rattle.std.proofs.Common.{◌≡◌, ℕ, true, false, List, [], ◌∷◌, ◌++◌, map, refl, ap, ◌∙◌, append_assoc}
use Rattle.std.specs.Prelude.{codes}
use Rattle.sj_base.specs.declared.Msg.{Msg}
use Rattle.sj_base.specs.declared.Msg.TheVariants as msgs
use Rattle.sj_lang.specs.FileAt.{FileAt}
use Rattle.sj_semantics.specs.Lines.{end_text, int_text, line_of, message_words, name_of, quoted_at, word_at}
use Rattle.sj_print.specs.declared.pieces.Piece.{Piece}
use Rattle.sj_print.specs.Pieces.{message_text, piece_text, spaced_text, words_text}

-- words are the last one after the others, each with its space
pub words_apart : (file : FileAt) (ps : List Piece) (last : Piece)
    → spaced_text file ps ++ piece_text file last ≡ words_text (map (piece_text file) (ps ++ last ∷ []))
words_apart file [] last = refl
words_apart file (p ∷ []) last = append_assoc (piece_text file p) (32 ∷ []) (piece_text file last)
words_apart file (p ∷ q ∷ ps) last =
    append_assoc (piece_text file p) (32 ∷ spaced_text file (q ∷ ps)) (piece_text file last)
    ∙ ap (λ r. piece_text file p ++ 32 ∷ r) (words_apart file (q ∷ ps) last)

-- a line is its words and a newline
line_apart : (x : List ℕ) (xs : List (List ℕ)) → words_text (x ∷ xs) ++ 10 ∷ [] ≡ line_of (x ∷ xs)
line_apart x [] = refl
line_apart x (y ∷ ys) = append_assoc x (32 ∷ words_text (y ∷ ys)) (10 ∷ []) ∙ ap (λ r. x ++ 32 ∷ r) (line_apart y ys)

-- and so it is with a message
pub message_line : (file : FileAt) (m : Msg) → message_text file m ++ 10 ∷ [] ≡ line_of (message_words file m)
message_line file (msgs.Int n) = line_apart (codes "int") (int_text n ∷ [])
message_line file (msgs.Bool true) = line_apart (codes "boolean") (codes "true" ∷ [])
message_line file (msgs.Bool false) = line_apart (codes "boolean") (codes "false" ∷ [])
message_line file (msgs.Text n) = line_apart (codes "String") (quoted_at file.texts n ∷ [])
message_line file (msgs.Label l) = line_apart (codes "label") (word_at file.words l ∷ [])
message_line file (msgs.More true) = line_apart (codes "more") []
message_line file (msgs.More false) = line_apart (codes "stop") []
message_line file (msgs.Sess s d k) = line_apart (codes "session") (end_text s d ∷ name_of file k ∷ [])
