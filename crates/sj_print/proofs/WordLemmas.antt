-- Words with their spaces, and then a line.
use Rattle.std.proofs.Common.{◌≡◌, ℕ, true, false, List, [], ◌∷◌, ◌++◌, refl, ap, sym, ◌∙◌, append_assoc}
use Rattle.sj_base.specs.declared.Msg.{Msg}
use Rattle.sj_base.specs.declared.Msg.TheVariants as msgs
use Rattle.sj_lang.specs.FileAt.{FileAt}
use Rattle.sj_rules.specs.Log as log
use Rattle.sj_rules.specs.Log.{NoteAt}
use Rattle.sj_semantics.specs.Lines.{line_of, message_words}
use Rattle.sj_print.specs.LogLine.{note_words}
use Rattle.sj_print.specs.Pieces.{closed_words}

spaced_line : (ws : List (List ℕ)) (x : List ℕ) (xs : List (List ℕ)) → closed_words ws ++ line_of (x ∷ xs) ≡ line_of (ws ++ x ∷ xs)
spaced_line [] x xs = refl
spaced_line (w ∷ []) x xs = append_assoc w (32 ∷ []) (line_of (x ∷ xs))
spaced_line (w ∷ v ∷ ws) x xs = append_assoc w (32 ∷ closed_words (v ∷ ws)) (line_of (x ∷ xs)) ∙ ap (λ r. w ++ 32 ∷ r) (spaced_line (v ∷ ws) x xs)

-- there is at least one word
record HasFirst (words : List (List ℕ)) : Type 0 where
  word : List ℕ
  others : List (List ℕ)
  is : words ≡ word ∷ others

first : (x : List ℕ) (xs : List (List ℕ)) → HasFirst (x ∷ xs)
first x xs = record { word = x; others = xs; is = refl }

line_behind : (ws words : List (List ℕ)) → HasFirst words → closed_words ws ++ line_of words ≡ line_of (ws ++ words)
line_behind ws words f = ap (λ t. closed_words ws ++ line_of t) f.is ∙ spaced_line ws f.word f.others ∙ ap (λ t. line_of (ws ++ t)) (sym f.is)

first-message : (file : FileAt) (m : Msg) → HasFirst (message_words file m)
first-message file (msgs.Int n) = first _ _
first-message file (msgs.Bool true) = first _ _
first-message file (msgs.Bool false) = first _ _
first-message file (msgs.Text n) = first _ _
first-message file (msgs.Label l) = first _ _
first-message file (msgs.More true) = first _ _
first-message file (msgs.More false) = first _ _
first-message file (msgs.Sess s d k) = first _ _

first-note : (file : FileAt) (n : NoteAt) → HasFirst (note_words file n)
first-note file log.Local = first _ _
first-note file (log.Sent e m) = first _ _
first-note file (log.Took e m) = first _ _
first-note file (log.Shut e) = first _ _
first-note file (log.Carry to conn number taken m) = first _ _
first-note file (log.Fin to conn number) = first _ _
first-note file (log.Claim of) = first _ _
first-note file (log.Signal to conn party taken) = first _ _
first-note file (log.Ack of conn) = first _ _
first-note file (log.Give of conn peer sent taken base resend) = first _ _
first-note file (log.Request sess to) = first _ _
first-note file (log.Accept sess from) = first _ _
first-note file (log.Open sess) = first _ _

-- a line is its first words with their spaces, and then the message
pub message_behind : (ws : List (List ℕ)) (file : FileAt) (m : Msg) → closed_words ws ++ line_of (message_words file m) ≡ line_of (ws ++ message_words file m)
message_behind ws file m = line_behind ws (message_words file m) (first-message file m)

-- a line of a log is its head with its spaces, and then the note
pub note_behind : (ws : List (List ℕ)) (file : FileAt) (n : NoteAt) → closed_words ws ++ line_of (note_words file n) ≡ line_of (ws ++ note_words file n)
note_behind ws file n = line_behind ws (note_words file n) (first-note file n)
