-- What the words of a line say was done, or came.
use Rattle.std.specs.Prelude.{ℕ, true, false, not, if◌then◌else◌, List, codes, Option, Result, Err, ⊤}
use Rattle.std.specs.Str.{bytes_eq}
use Rattle.sj_base.specs.declared.Msg.{Msg}
use Rattle.sj_base.specs.declared.Msg.TheVariants as msgs
use Rattle.sj_lang.specs.FileAt.{FileAt}
use Rattle.sj_rules.specs.Log.{NoteAt, Local, Sent, Took, Shut, Carry, Fin, Claim, Signal, Ack, Give, Request, Accept, Open}
use Rattle.sj_print.specs.Version.{knows_openings}
use Rattle.sj_log.specs.Fields.{made, word, rest, next, ended, count_read, int_read, end_read, resend_read, bool_read, words_text}
use Rattle.sj_log.specs.Names.{label_read, party_read, text_read}
use Rattle.sj_log.specs.declared.refusal.LogRule.{LogRule}
use Rattle.sj_log.specs.declared.refusal.LogRule.TheVariants.{L1}

-- an end, and its keeper
unfoldable pub sess_read : FileAt → List (List ℕ) → Result Msg LogRule
sess_read file ws = made (λ x. msgs.Sess x.0.sess x.0.side x.1.0) (next end_read (next (party_read file) ended) ws)

-- a message to the end of the line; a text may have spaces
unfoldable pub message_read : FileAt → List (List ℕ) → Result Msg LogRule
message_read file ws =
    if bytes_eq (word ws) (codes "int") then made (λ x. msgs.Int x.0) (next int_read ended (rest ws))
    else (if bytes_eq (word ws) (codes "boolean") then made (λ x. msgs.Bool x.0) (next bool_read ended (rest ws))
    else (if bytes_eq (word ws) (codes "String") then made (λ n. msgs.Text n) (text_read file (words_text (rest ws)))
    else (if bytes_eq (word ws) (codes "label") then made (λ x. msgs.Label x.0) (next (label_read file) ended (rest ws))
    else (if bytes_eq (word ws) (codes "more") then made (λ x. msgs.More true) (ended (rest ws))
    else (if bytes_eq (word ws) (codes "stop") then made (λ x. msgs.More false) (ended (rest ws))
    else (if bytes_eq (word ws) (codes "session") then sess_read file (rest ws)
    else Err L1))))))

-- a session by its number, and a party
unfoldable pub offer_read : FileAt → List (List ℕ) → Result (ℕ × (ℕ × ⊤)) LogRule
offer_read file ws = next count_read (next (party_read file) ended) ws

-- a session is opened or accepted, which a log of version 1 doesn't report
unfoldable pub opening_read : ℕ → FileAt → List ℕ → List (List ℕ) → Result NoteAt LogRule
opening_read version file w ws =
    if not (knows_openings version) then Err L1
    else (if bytes_eq w (codes "request") then made (λ x. Request x.0 x.1.0) (offer_read file ws)
    else (if bytes_eq w (codes "accept") then made (λ x. Accept x.0 x.1.0) (offer_read file ws)
    else Err L1))

-- what a party did, by that word and those after it, in a log of that version
unfoldable pub act_read : ℕ → FileAt → List ℕ → List (List ℕ) → Result NoteAt LogRule
act_read version file w ws =
    if bytes_eq w (codes "local") then made (λ x. Local) (ended ws)
    else (if bytes_eq w (codes "send") then made (λ x. Sent x.0 x.1) (next end_read (message_read file) ws)
    else (if bytes_eq w (codes "take") then made (λ x. Took x.0 x.1) (next end_read (message_read file) ws)
    else (if bytes_eq w (codes "close") then made (λ x. Shut x.0) (next end_read ended ws)
    else opening_read version file w ws)))

unfoldable pub carry_read : FileAt → List (List ℕ) → Result NoteAt LogRule
carry_read file ws =
    made (λ x. Carry x.0 x.1.0 x.1.1.0 x.1.1.1.0 x.1.1.1.1)
    (next end_read (next count_read (next count_read (next count_read (message_read file)))) ws)

unfoldable pub fin_read : List (List ℕ) → Result NoteAt LogRule
fin_read ws = made (λ x. Fin x.0 x.1.0 x.1.1.0) (next end_read (next count_read (next count_read ended)) ws)

unfoldable pub signal_read : FileAt → List (List ℕ) → Result NoteAt LogRule
signal_read file ws =
    made (λ x. Signal x.0 x.1.0 x.1.1.0 x.1.1.1.0)
    (next end_read (next count_read (next (party_read file) (next count_read ended))) ws)

-- the counts of an end that moves, and from which message on is resent
unfoldable pub counts_read : List (List ℕ) → Result (ℕ × (ℕ × (ℕ × (Option ℕ × ⊤)))) LogRule
counts_read ws = next count_read (next count_read (next count_read (next resend_read ended))) ws

unfoldable pub give_read : FileAt → List (List ℕ) → Result NoteAt LogRule
give_read file ws =
    made (λ x. Give x.0 x.1.0 x.1.1.0 x.1.1.1.0 x.1.1.1.1.0 x.1.1.1.1.1.0 x.1.1.1.1.1.1.0)
    (next end_read (next count_read (next (party_read file) counts_read)) ws)

-- a session that was opened comes, which a log of version 1 doesn't report
unfoldable pub open_read : ℕ → List ℕ → List (List ℕ) → Result NoteAt LogRule
open_read version w ws =
    if not (knows_openings version) then Err L1
    else (if bytes_eq w (codes "open") then made (λ x. Open x.0) (next count_read ended ws)
    else Err L1)

-- what a frame said, in a log of that version
unfoldable pub frame_read : ℕ → FileAt → List (List ℕ) → Result NoteAt LogRule
frame_read version file ws =
    if bytes_eq (word ws) (codes "carry") then carry_read file (rest ws)
    else (if bytes_eq (word ws) (codes "fin") then fin_read (rest ws)
    else (if bytes_eq (word ws) (codes "claim") then made (λ x. Claim x.0) (next end_read ended (rest ws))
    else (if bytes_eq (word ws) (codes "signal") then signal_read file (rest ws)
    else (if bytes_eq (word ws) (codes "ack") then made (λ x. Ack x.0 x.1.0) (next end_read (next count_read ended) (rest ws))
    else (if bytes_eq (word ws) (codes "give") then give_read file (rest ws)
    else open_read version (word ws) (rest ws))))))
