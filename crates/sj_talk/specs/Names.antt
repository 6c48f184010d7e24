-- The names and texts of a talk: the words of its file, and the ends that the played party holds.
use Rattle.std.specs.Prelude.{ℕ, ◌^◌, ◌-◌, not, nat_le, if◌then◌else◌, List, [], ◌∷◌, ◌++◌, length, map, filter, slice_get, Option, Some, None, is_some, option_and_then, unwrap_or}
use Rattle.std.specs.Str.{bytes_eq}
use Rattle.sj_base.specs.declared.EndId.{EndId}
use Rattle.sj_base.specs.declared.Msg.{Msg}
use Rattle.sj_base.specs.declared.Msg.TheVariants as msgs
use Rattle.sj_lang.specs.FileAt.{FileAt, ends_from}
use Rattle.sj_lang.specs.Words.{first_index}
use Rattle.sj_talk.specs.Forms as forms
use Rattle.sj_talk.specs.Forms.{ValueAt}

-- ---- tables

-- the table with the word, which is put after the others where it isn't there
abbrev pub with_word : List (List ℕ) → List ℕ → List (List ℕ)
with_word ws w = if is_some (first_index w ws) then ws else ws ++ w ∷ []

-- the table with these words
abbrev pub with_words : List (List ℕ) → List (List ℕ) → List (List ℕ)
with_words ws [] = ws
with_words ws (v ∷ vs) = with_words (with_word ws v) vs

-- each word once, in order of first occurrence, as they stand in the table of a file that was read
abbrev pub once : List (List ℕ) → List (List ℕ)
once ws = with_words [] ws

-- the file with each word and each text once
abbrev pub shown_file : FileAt → FileAt
shown_file file = record {
  words = once file.words;
  texts = once file.texts;
  protocols = file.protocols;
  parties = file.parties;
  connects = file.connects;
}

-- the file with these texts
abbrev pub with_texts : FileAt → List (List ℕ) → FileAt
with_texts file texts = record { words = file.words; texts = texts; protocols = file.protocols; parties = file.parties; connects = file.connects }

-- the number of a word that is in the table, or comes next
abbrev pub number_in : List (List ℕ) → List ℕ → ℕ
number_in ws w = unwrap_or (first_index w ws) (length ws)

-- labels have numbers of 16 bits
abbrev pub last_label : ℕ
last_label = 2 ^ 16 - 1

abbrev pub label_if : ℕ → Option ℕ
label_if n = if nat_le n last_label then Some n else None

-- the number of a label, where some word of the file is spelled so
abbrev pub label_number : FileAt → List ℕ → Option ℕ
label_number file l = option_and_then label_if (first_index l file.words)

-- the message that carries the value
abbrev pub message_of : FileAt → ValueAt → Msg
message_of file (forms.number n) = msgs.Int n
message_of file (forms.truth b) = msgs.Bool b
message_of file (forms.text t) = msgs.Text (number_in file.texts t)

-- the texts of the file, with the one that is a value
abbrev pub texts_with : FileAt → ValueAt → List (List ℕ)
texts_with file (forms.text t) = with_word file.texts t
texts_with file _ = file.texts

-- ---- ends under names

-- ends, each under its name
abbrev pub Ends : Type 0
Ends = List (List ℕ × EndId)

-- the end under the name
abbrev pub end_named : Ends → List ℕ → Option EndId
end_named [] n = None
end_named (b ∷ bs) n = if bytes_eq b.0 n then Some b.1 else end_named bs n

-- the ends without the one under that name
abbrev pub ends_without : Ends → List ℕ → Ends
ends_without bs n = filter (λ b. not (bytes_eq b.0 n)) bs

-- the word of that number
abbrev pub word_at : List (List ℕ) → ℕ → List ℕ
word_at ws n = unwrap_or (slice_get ws n) []

-- ends under the numbers of words, under those words
abbrev pub spelled : List (List ℕ) → List (ℕ × EndId) → Ends
spelled ws bs = map (λ b. (word_at ws b.0, b.1)) bs

-- the ends that connections give the party
abbrev pub connected_ends : FileAt → ℕ → Ends
connected_ends file p = spelled file.words (ends_from file p 0 file.connects)
