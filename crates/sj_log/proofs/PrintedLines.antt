-- No newline stands in the words of a line.
use Rattle.std.proofs.Common.{◌≡◌, ℕ, ◌<◌, true, false, List, [], ◌∷◌, ◌++◌, length, refl, ap, ◌∙◌, arith}
use Rattle.std.specs.Prelude.{◌==◌, nat_lt, not, decimal, codes}
use Rattle.std.specs.List.{join_with_byte}
use Rattle.std.proofs.lemmas.Bool.Decides.{nat_tests}
use Rattle.std.proofs.lemmas.List.Folds.{list_all-append}
use Rattle.sj_base.specs.declared.Msg.{Msg}
use Rattle.sj_base.specs.declared.Msg.TheVariants as msgs
use Rattle.sj_lang.specs.FileAt.{FileAt}
use Rattle.sj_semantics.specs.Lines.{word_at, name_of, end_text, int_text, quoted_at, quoted_or_number, message_words}
use Rattle.sj_rules.specs.Log.{NoteAt, LineAt, Local, Sent, Took, Shut, Carry, Fin, Claim, Signal, Ack, Give, Request, Accept, Open}
use Rattle.sj_rules.specs.World.{Event, Act, Deliver}
use Rattle.sj_grammar.specs.Bytes.{is_printable}
use Rattle.sj_print.specs.LogLine.{end_word, resend_word, note_words, origin_words}
use Rattle.sj_log.specs.Legible.{IsMessage, IsAct, IsSaid, IsEvent, IsLegible, HasText}
use Rattle.sj_log.proofs.PrintedMessages.{kept, plain_number, plain_count, plain_word, plain_end, plain_int, plain_resend, message_some}
use Rattle.sj_log.proofs.PrintedEvents.{note_some, event_some, whole_words}
use Rattle.sj_log.proofs.PartedWords.{is_plain, is_one_line, ArePlain}

visible : (x : ℕ) → nat_lt 32 x ≡ true → not (x == 10) ≡ true
visible x t = grind (arith, nat_tests)

printable : (x : ℕ) → is_printable x ≡ true → not (x == 10) ≡ true
printable x t = grind (arith, nat_tests)

plain_line : (w : List ℕ) → is_plain w ≡ true → is_one_line w ≡ true
plain_line w t = kept (λ b. nat_lt 32 b) (λ b. not (b == 10)) visible w t

behind_words : (ws : List (List ℕ)) (m : List ℕ) (ms : List (List ℕ)) → ArePlain ws → is_one_line (join_with_byte 32 (m ∷ ms)) ≡ true → is_one_line (join_with_byte 32 (ws ++ m ∷ ms)) ≡ true
behind_words [] m ms h t = t
behind_words (w ∷ []) m ms h t = list_all-append (λ b. not (b == 10)) w (32 ∷ join_with_byte 32 (m ∷ ms)) ∙ rw (plain_line w h.0) t
behind_words (w ∷ v ∷ vs) m ms h t =
    list_all-append (λ b. not (b == 10)) w (32 ∷ join_with_byte 32 (v ∷ (vs ++ m ∷ ms))) ∙ rw (plain_line w h.0) (behind_words (v ∷ vs) m ms h.1 t)

more_words : (ws ms : List (List ℕ)) → 0 < length ms → ArePlain ws → is_one_line (join_with_byte 32 ms) ≡ true → is_one_line (join_with_byte 32 (ws ++ ms)) ≡ true
more_words ws [] some h t = absurd (omega arith)
more_words ws (m ∷ ms) some h t = behind_words ws m ms h t

last_word : (ws : List (List ℕ)) (w : List ℕ) → ArePlain ws → is_plain w ≡ true → is_one_line (join_with_byte 32 (ws ++ w ∷ [])) ≡ true
last_word ws w h p = behind_words ws w [] h (plain_line w p)

text_line : (file : FileAt) (n : ℕ) → HasText file n → is_one_line (quoted_at file.texts n) ≡ true
text_line file n h =
    ap (λ o. is_one_line (quoted_or_number n o)) h.here
    ∙ list_all-append (λ b. not (b == 10)) h.text (34 ∷ []) ∙ rw (kept is_printable (λ b. not (b == 10)) printable h.text h.form) refl

message_line : (file : FileAt) (m : Msg) → IsMessage file m → is_one_line (join_with_byte 32 (message_words file m)) ≡ true
message_line file (msgs.Int n) h = last_word (codes "int" ∷ []) (int_text n) (refl, tt) (plain_int n h)
message_line file (msgs.Bool true) h = refl
message_line file (msgs.Bool false) h = refl
message_line file (msgs.Text n) h = behind_words (codes "String" ∷ []) (quoted_at file.texts n) [] (refl, tt) (text_line file n h)
message_line file (msgs.Label n) h = last_word (codes "label" ∷ []) (word_at file.words n) (refl, tt) (plain_word (word_at file.words n) h.form)
message_line file (msgs.More true) h = refl
message_line file (msgs.More false) h = refl
message_line file (msgs.Sess s d k) h =
    last_word (codes "session" ∷ end_text s d ∷ []) (name_of file k) (refl, (plain_end s d h.0, tt)) (plain_word (name_of file k) h.1.form)

act_line : (file : FileAt) (note : NoteAt) → IsAct file note → is_one_line (join_with_byte 32 (note_words file note)) ≡ true
act_line file Local h = refl
act_line file (Sent e m) h =
    more_words (codes "send" ∷ end_word e ∷ []) (message_words file m) (message_some file m) (refl, (plain_end e.sess e.side h.0, tt)) (message_line file m h.1)
act_line file (Took e m) h =
    more_words (codes "take" ∷ end_word e ∷ []) (message_words file m) (message_some file m) (refl, (plain_end e.sess e.side h.0, tt)) (message_line file m h.1)
act_line file (Shut e) h = last_word (codes "close" ∷ []) (end_word e) (refl, tt) (plain_end e.sess e.side h)
act_line file (Request s q) h =
    last_word (codes "request" ∷ decimal s ∷ []) (name_of file q) (refl, (plain_count s h.0, tt)) (plain_word (name_of file q) h.1.form)
act_line file (Accept s q) h =
    last_word (codes "accept" ∷ decimal s ∷ []) (name_of file q) (refl, (plain_count s h.0, tt)) (plain_word (name_of file q) h.1.form)
act_line file (Open s) h = elim h [ ]
act_line file (Carry e c n t m) h = elim h [ ]
act_line file (Fin e c n) h = elim h [ ]
act_line file (Claim e) h = elim h [ ]
act_line file (Signal e c p t) h = elim h [ ]
act_line file (Ack e c) h = elim h [ ]
act_line file (Give e c p s t b r) h = elim h [ ]

said_line : (file : FileAt) (note : NoteAt) → IsSaid file note → is_one_line (join_with_byte 32 (note_words file note)) ≡ true
said_line file (Carry e c n t m) h =
    more_words (codes "carry" ∷ end_word e ∷ decimal c ∷ decimal n ∷ decimal t ∷ []) (message_words file m) (message_some file m)
    (refl, (plain_end e.sess e.side h.0, (plain_count c h.1.0, (plain_count n h.1.1.0, (plain_count t h.1.1.1.0, tt))))) (message_line file m h.1.1.1.1)
said_line file (Fin e c n) h =
    last_word (codes "fin" ∷ end_word e ∷ decimal c ∷ []) (decimal n) (refl, (plain_end e.sess e.side h.0, (plain_count c h.1.0, tt))) (plain_count n h.1.1)
said_line file (Claim e) h = last_word (codes "claim" ∷ []) (end_word e) (refl, tt) (plain_end e.sess e.side h)
said_line file (Signal e c p t) h =
    last_word (codes "signal" ∷ end_word e ∷ decimal c ∷ name_of file p ∷ []) (decimal t)
    (refl, (plain_end e.sess e.side h.0, (plain_count c h.1.0, (plain_word (name_of file p) h.1.1.0.form, tt)))) (plain_count t h.1.1.1)
said_line file (Ack e c) h = last_word (codes "ack" ∷ end_word e ∷ []) (decimal c) (refl, (plain_end e.sess e.side h.0, tt)) (plain_count c h.1)
said_line file (Give e c p s t b r) h =
    last_word (codes "give" ∷ end_word e ∷ decimal c ∷ name_of file p ∷ decimal s ∷ decimal t ∷ decimal b ∷ []) (resend_word r)
    (refl, (plain_end e.sess e.side h.0, (plain_count c h.1.0, (plain_word (name_of file p) h.1.1.0.form, (plain_count s h.1.1.1.0, (plain_count t h.1.1.1.1.0, (plain_count b h.1.1.1.1.1.0, tt)))))))
    (plain_resend r h.1.1.1.1.1.1)
said_line file (Open s) h = last_word (codes "open" ∷ []) (decimal s) (refl, tt) (plain_count s h)
said_line file (Request s q) h = elim h [ ]
said_line file (Accept s q) h = elim h [ ]
said_line file Local h = elim h [ ]
said_line file (Sent e m) h = elim h [ ]
said_line file (Took e m) h = elim h [ ]
said_line file (Shut e) h = elim h [ ]

event_line : (file : FileAt) (event : Event) (note : NoteAt) → IsEvent file event note → is_one_line (join_with_byte 32 (origin_words file event ++ note_words file note)) ≡ true
event_line file Act note h = act_line file note h
event_line file (Deliver q) note h =
    more_words (codes "from" ∷ name_of file q ∷ []) (note_words file note) (note_some file note) (refl, (plain_word (name_of file q) h.0.form, tt)) (said_line file note h.1)

pub whole_line : (file : FileAt) (l : LineAt) → IsLegible file l → is_one_line (join_with_byte 32 (whole_words file l)) ≡ true
whole_line file l h =
    more_words (decimal l.entry.clock ∷ name_of file l.party ∷ []) (origin_words file l.entry.event ++ note_words file l.entry.note) (event_some file l.entry.event l.entry.note)
    (plain_number l.entry.clock (let m = h.most in omega arith), (plain_word (name_of file l.party) h.party.form, tt)) (event_line file l.entry.event l.entry.note h.event)
