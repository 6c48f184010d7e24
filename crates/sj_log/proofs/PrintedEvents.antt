-- An act or a frame that is printed is read as it.
use Rattle.std.proofs.Common.{◌≡◌, ℕ, ◌<◌, true, List, [], ◌∷◌, ◌++◌, length, Ok, refl, ap, ◌∙◌, arith}
use Rattle.std.specs.Prelude.{decimal, codes}
use Rattle.std.specs.List.{join_with_byte}
use Rattle.sj_lang.specs.FileAt.{FileAt}
use Rattle.sj_semantics.specs.Lines.{name_of, message_words}
use Rattle.sj_rules.specs.Log.{NoteAt, LineAt, Local, Sent, Took, Shut, Carry, Fin, Claim, Signal, Ack, Give, Request, Accept, Open}
use Rattle.sj_rules.specs.World.{Event, Act, Deliver}
use Rattle.sj_print.specs.LogLine.{end_word, resend_word, note_words, origin_words}
use Rattle.sj_print.specs.Version.{is_opening, knows_openings}
use Rattle.sj_log.specs.Fields.{both, made, next, words_in, clock_read}
use Rattle.sj_log.specs.Names.{party_read}
use Rattle.sj_log.specs.Notes.{act_read, frame_read, carry_read, fin_read, signal_read, counts_read, give_read, offer_read, opening_read, open_read}
use Rattle.sj_log.specs.LogText.{event_read, line_read}
use Rattle.sj_log.specs.Legible.{IsAct, IsSaid, IsEvent, IsLegible}
use Rattle.sj_log.proofs.PrintedFields.{count_back, clock_back, end_back, party_back, resend_back}
use Rattle.sj_log.proofs.PrintedMessages.{plain_number, plain_count, plain_word, plain_end, plain_resend, message_some, message_back}
use Rattle.sj_log.proofs.PartedWords.{parted_more, all_parted}

-- a log of that version has the form of that line
abbrev pub Knows : ℕ → NoteAt → Type 0
Knows version note = is_opening note ≡ true → knows_openings version ≡ true

act_back : (version : ℕ) (file : FileAt) (note : NoteAt) → Knows version note → IsAct file note → event_read version file (words_in (join_with_byte 32 (note_words file note))) ≡ Ok (Act, note)
unfolding event_read act_read opening_read offer_read both
act_back version file Local k h = refl
act_back version file (Sent e m) k h =
    ap (event_read version file) (parted_more (codes "send" ∷ end_word e ∷ []) (message_words file m) (message_some file m) (refl, (plain_end e.sess e.side h.0, tt)))
    ∙ (λ i. made (λ n. (Act, n)) (made (λ x. Sent x.0 x.1) (both (end_back e.sess e.side h.0 i) (message_back file m h.1 i))))
act_back version file (Took e m) k h =
    ap (event_read version file) (parted_more (codes "take" ∷ end_word e ∷ []) (message_words file m) (message_some file m) (refl, (plain_end e.sess e.side h.0, tt)))
    ∙ (λ i. made (λ n. (Act, n)) (made (λ x. Took x.0 x.1) (both (end_back e.sess e.side h.0 i) (message_back file m h.1 i))))
act_back version file (Shut e) k h =
    ap (event_read version file) (all_parted (codes "close" ∷ []) (end_word e) (refl, tt) (plain_end e.sess e.side h))
    ∙ (λ i. made (λ n. (Act, n)) (made (λ x. Shut x.0) (both (end_back e.sess e.side h i) (Ok tt))))
act_back version file (Request s q) k h =
    ap (event_read version file) (all_parted (codes "request" ∷ decimal s ∷ []) (name_of file q) (refl, (plain_count s h.0, tt)) (plain_word (name_of file q) h.1.form))
    ∙ rw (k refl) (λ i. made (λ n. (Act, n)) (made (λ x. Request x.0 x.1.0) (both (count_back s h.0 i) (both (party_back file q h.1 i) (Ok tt)))))
act_back version file (Accept s q) k h =
    ap (event_read version file) (all_parted (codes "accept" ∷ decimal s ∷ []) (name_of file q) (refl, (plain_count s h.0, tt)) (plain_word (name_of file q) h.1.form))
    ∙ rw (k refl) (λ i. made (λ n. (Act, n)) (made (λ x. Accept x.0 x.1.0) (both (count_back s h.0 i) (both (party_back file q h.1 i) (Ok tt)))))
act_back version file (Open s) k h = elim h [ ]
act_back version file (Carry e c n t m) k h = elim h [ ]
act_back version file (Fin e c n) k h = elim h [ ]
act_back version file (Claim e) k h = elim h [ ]
act_back version file (Signal e c p t) k h = elim h [ ]
act_back version file (Ack e c) k h = elim h [ ]
act_back version file (Give e c p s t b r) k h = elim h [ ]

said_back : (version : ℕ) (file : FileAt) (note : NoteAt) → Knows version note → IsSaid file note → frame_read version file (words_in (join_with_byte 32 (note_words file note))) ≡ Ok note
unfolding frame_read open_read carry_read fin_read signal_read counts_read give_read both
said_back version file (Carry e c n t m) k h =
    ap (frame_read version file) (parted_more (codes "carry" ∷ end_word e ∷ decimal c ∷ decimal n ∷ decimal t ∷ []) (message_words file m) (message_some file m)
    (refl, (plain_end e.sess e.side h.0, (plain_count c h.1.0, (plain_count n h.1.1.0, (plain_count t h.1.1.1.0, tt))))))
    ∙ (λ i. made (λ x. Carry x.0 x.1.0 x.1.1.0 x.1.1.1.0 x.1.1.1.1)
    (both (end_back e.sess e.side h.0 i) (both (count_back c h.1.0 i) (both (count_back n h.1.1.0 i) (both (count_back t h.1.1.1.0 i) (message_back file m h.1.1.1.1 i))))))
said_back version file (Fin e c n) k h =
    ap (frame_read version file) (all_parted (codes "fin" ∷ end_word e ∷ decimal c ∷ []) (decimal n) (refl, (plain_end e.sess e.side h.0, (plain_count c h.1.0, tt))) (plain_count n h.1.1))
    ∙ (λ i. made (λ x. Fin x.0 x.1.0 x.1.1.0) (both (end_back e.sess e.side h.0 i) (both (count_back c h.1.0 i) (both (count_back n h.1.1 i) (Ok tt)))))
said_back version file (Claim e) k h =
    ap (frame_read version file) (all_parted (codes "claim" ∷ []) (end_word e) (refl, tt) (plain_end e.sess e.side h))
    ∙ (λ i. made (λ x. Claim x.0) (both (end_back e.sess e.side h i) (Ok tt)))
said_back version file (Signal e c p t) k h =
    ap (frame_read version file) (all_parted (codes "signal" ∷ end_word e ∷ decimal c ∷ name_of file p ∷ []) (decimal t)
    (refl, (plain_end e.sess e.side h.0, (plain_count c h.1.0, (plain_word (name_of file p) h.1.1.0.form, tt)))) (plain_count t h.1.1.1))
    ∙ (λ i. made (λ x. Signal x.0 x.1.0 x.1.1.0 x.1.1.1.0)
    (both (end_back e.sess e.side h.0 i) (both (count_back c h.1.0 i) (both (party_back file p h.1.1.0 i) (both (count_back t h.1.1.1 i) (Ok tt))))))
said_back version file (Ack e c) k h =
    ap (frame_read version file) (all_parted (codes "ack" ∷ end_word e ∷ []) (decimal c) (refl, (plain_end e.sess e.side h.0, tt)) (plain_count c h.1))
    ∙ (λ i. made (λ x. Ack x.0 x.1.0) (both (end_back e.sess e.side h.0 i) (both (count_back c h.1 i) (Ok tt))))
said_back version file (Give e c p s t b r) k h =
    ap (frame_read version file) (all_parted (codes "give" ∷ end_word e ∷ decimal c ∷ name_of file p ∷ decimal s ∷ decimal t ∷ decimal b ∷ []) (resend_word r)
    (refl, (plain_end e.sess e.side h.0, (plain_count c h.1.0, (plain_word (name_of file p) h.1.1.0.form, (plain_count s h.1.1.1.0, (plain_count t h.1.1.1.1.0, (plain_count b h.1.1.1.1.1.0, tt)))))))
    (plain_resend r h.1.1.1.1.1.1))
    ∙ (λ i. made (λ x. Give x.0 x.1.0 x.1.1.0 x.1.1.1.0 x.1.1.1.1.0 x.1.1.1.1.1.0 x.1.1.1.1.1.1.0)
    (both (end_back e.sess e.side h.0 i) (both (count_back c h.1.0 i) (both (party_back file p h.1.1.0 i)
    (both (count_back s h.1.1.1.0 i) (both (count_back t h.1.1.1.1.0 i) (both (count_back b h.1.1.1.1.1.0 i) (both (resend_back r h.1.1.1.1.1.1 i) (Ok tt)))))))))
said_back version file (Open s) k h =
    ap (frame_read version file) (all_parted (codes "open" ∷ []) (decimal s) (refl, tt) (plain_count s h))
    ∙ rw (k refl) (λ i. made (λ x. Open x.0) (both (count_back s h i) (Ok tt)))
said_back version file (Request s q) k h = elim h [ ]
said_back version file (Accept s q) k h = elim h [ ]
said_back version file Local k h = elim h [ ]
said_back version file (Sent e m) k h = elim h [ ]
said_back version file (Took e m) k h = elim h [ ]
said_back version file (Shut e) k h = elim h [ ]

pub note_some : (file : FileAt) (note : NoteAt) → 0 < length (note_words file note)
note_some file Local = omega arith
note_some file (Sent e m) = omega arith
note_some file (Took e m) = omega arith
note_some file (Shut e) = omega arith
note_some file (Carry e c n t m) = omega arith
note_some file (Fin e c n) = omega arith
note_some file (Claim e) = omega arith
note_some file (Signal e c p t) = omega arith
note_some file (Ack e c) = omega arith
note_some file (Give e c p s t b r) = omega arith
note_some file (Request s q) = omega arith
note_some file (Accept s q) = omega arith
note_some file (Open s) = omega arith

pub event_back : (version : ℕ) (file : FileAt) (event : Event) (note : NoteAt) → Knows version note → IsEvent file event note
    → event_read version file (words_in (join_with_byte 32 (origin_words file event ++ note_words file note))) ≡ Ok (event, note)
unfolding event_read both
event_back version file Act note k h = act_back version file note k h
event_back version file (Deliver q) note k h =
    ap (event_read version file) (parted_more (codes "from" ∷ name_of file q ∷ []) (note_words file note) (note_some file note) (refl, (plain_word (name_of file q) h.0.form, tt)))
    ∙ (λ i. made (λ x. (Deliver x.0, x.1)) (both (party_back file q h.0 i) (said_back version file note k h.1 i)))

pub event_some : (file : FileAt) (event : Event) (note : NoteAt) → 0 < length (origin_words file event ++ note_words file note)
event_some file Act note = note_some file note
event_some file (Deliver q) note = omega arith

-- the words of a line, without its newline
abbrev pub whole_words : FileAt → LineAt → List (List ℕ)
whole_words file l = decimal l.entry.clock ∷ name_of file l.party ∷ (origin_words file l.entry.event ++ note_words file l.entry.note)

pub line_back : (version : ℕ) (file : FileAt) (l : LineAt) → Knows version l.entry.note → IsLegible file l → line_read version file (join_with_byte 32 (whole_words file l)) ≡ Ok l
unfolding line_read both
line_back version file l k h =
    let clock = l.entry.clock in let event = l.entry.event in let note = l.entry.note in
    ap (λ ws. made (λ x. record { party = x.1.0; entry = record { clock = x.0; event = x.1.1.0; note = x.1.1.1 } }) (next clock_read (next (party_read file) (event_read version file)) ws))
    (parted_more (decimal clock ∷ name_of file l.party ∷ []) (origin_words file event ++ note_words file note) (event_some file event note)
    (plain_number clock (let m = h.most in omega arith), (plain_word (name_of file l.party) h.party.form, tt)))
    ∙ (λ i. made (λ x. record { party = x.1.0; entry = record { clock = x.0; event = x.1.1.0; note = x.1.1.1 } })
    (both (clock_back clock h.least h.most i) (both (party_back file l.party h.party i) (event_back version file event note k h.event i))))
