-- What is read of the parts of a line is what is read of the line.
use Rattle.std.proofs.Common.{◌≡◌, ℕ, true, List, refl, ◌∙◌, Result, Ok, Err}
use Rattle.std.specs.Prelude.{codes}
use Rattle.std.specs.Str.{bytes_eq}
use Rattle.sj_lang.specs.FileAt.{FileAt}
use Rattle.sj_end.specs.declared.note.Event.{Event}
use Rattle.sj_end.specs.declared.note.Event.TheVariants as events
use Rattle.sj_end.specs.declared.note.Note.{Note}
use Rattle.sj_end.specs.Lines.{line_at, note_seen, event_at}
use Rattle.sj_rules.specs.Log.{NoteAt, LineAt}
use Rattle.sj_rules.specs.World as rules
use Rattle.sj_log.specs.Fields.{both, made, words_in, word, rest, clock_read}
use Rattle.sj_log.specs.Names.{party_read}
use Rattle.sj_log.specs.Notes.{frame_read}
use Rattle.sj_log.specs.LogText.{event_read, line_read}
use Rattle.sj_log.specs.Values.{line_from}
use Rattle.sj_log.specs.declared.refusal.LogRule.{LogRule}

-- an event as the rules have it
abbrev pub event_seen : Event × Note → rules.Event × NoteAt
event_seen x = (event_at x.0, note_seen x.1)

abbrev delivered : ℕ × Note → Event × Note
delivered x = (events.Deliver x.0, x.1)

delivery_seen : (from : Result ℕ LogRule) (note : Result Note LogRule)
    → made event_seen (made delivered (both from note)) ≡ made (λ x. (rules.Deliver x.0, x.1)) (both from (made note_seen note))
unfolding both
delivery_seen (Ok p) (Ok n) = refl
delivery_seen (Ok p) (Err s) = refl
delivery_seen (Err r) (Ok n) = refl
delivery_seen (Err r) (Err s) = refl

pub delivery_read : (version : ℕ) (file : FileAt) (ws : List (List ℕ)) (from : Result ℕ LogRule) (note : Result Note LogRule)
    → bytes_eq (word ws) (codes "from") ≡ true → from ≡ party_read file (word (rest ws)) → made note_seen note ≡ frame_read version file (rest (rest ws))
    → made event_seen (made delivered (both from note)) ≡ event_read version file ws
unfolding event_read
delivery_read version file ws from note is e f = rw is (delivery_seen from note ∙ (λ i. made (λ x. (rules.Deliver x.0, x.1)) (both (e i) (f i))))

abbrev line_of_parts : ℕ × (ℕ × (rules.Event × NoteAt)) → LineAt
line_of_parts x = record { party = x.1.0; entry = record { clock = x.0; event = x.1.1.0; note = x.1.1.1 } }

line_seen : (clock party : Result ℕ LogRule) (event : Result (Event × Note) LogRule)
    → made line_at (made line_from (both clock (both party event))) ≡ made line_of_parts (both clock (both party (made event_seen event)))
unfolding both
line_seen (Ok c) (Ok p) (Ok e) = refl
line_seen (Ok c) (Ok p) (Err s) = refl
line_seen (Ok c) (Err r) (Ok e) = refl
line_seen (Ok c) (Err r) (Err s) = refl
line_seen (Err q) (Ok p) (Ok e) = refl
line_seen (Err q) (Ok p) (Err s) = refl
line_seen (Err q) (Err r) (Ok e) = refl
line_seen (Err q) (Err r) (Err s) = refl

pub parts_read : (version : ℕ) (file : FileAt) (bytes : List ℕ) (clock party : Result ℕ LogRule) (event : Result (Event × Note) LogRule)
    → clock ≡ clock_read (word (words_in bytes)) → party ≡ party_read file (word (rest (words_in bytes)))
    → made event_seen event ≡ event_read version file (rest (rest (words_in bytes)))
    → made line_at (made line_from (both clock (both party event))) ≡ line_read version file bytes
unfolding line_read
parts_read version file bytes clock party event c p e = line_seen clock party event ∙ (λ i. made line_of_parts (both (c i) (both (p i) (e i))))
