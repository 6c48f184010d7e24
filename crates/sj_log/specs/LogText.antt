-- The text of a log: the lines that bytes stand for, or the first line that is outside the grammar, and why.
use Rattle.std.specs.Prelude.{◌≡◌, ℕ, ◌+◌, ◌==◌, if◌then◌else◌, List, [], ◌∷◌, codes, Option, Some, None, Result, Ok, Err, ⊤}
use Rattle.std.specs.List.{slice_split}
use Rattle.std.specs.Str.{bytes_eq}
use Rattle.sj_lang.specs.FileAt.{FileAt}
use Rattle.sj_rules.specs.Log.{NoteAt, LineAt}
use Rattle.sj_rules.specs.World.{Event, Act, Deliver}
use Rattle.sj_log.specs.Rules.{rule_number}
use Rattle.sj_log.specs.Fields.{made, words_in, word, rest, next, clock_read}
use Rattle.sj_log.specs.Names.{party_read}
use Rattle.sj_log.specs.Notes.{act_read, frame_read}
use Rattle.sj_log.specs.declared.refusal.LogRule.{LogRule}
use Rattle.sj_log.specs.declared.refusal.LogRule.TheVariants.{L4}
use Rattle.sj_log.specs.declared.refusal.LogRefusal.{LogRefusal}
use Rattle.sj_log.specs.declared.refusal.LogRefusal.TheVariants as refusals

-- an act of the party, or a frame and the party from which it came, in a log of that version
unfoldable pub event_read : ℕ → FileAt → List (List ℕ) → Result (Event × NoteAt) LogRule
event_read version file ws =
    if bytes_eq (word ws) (codes "from") then made (λ x. (Deliver x.0, x.1)) (next (party_read file) (frame_read version file) (rest ws))
    else made (λ n. (Act, n)) (act_read version file (word ws) (rest ws))

-- a line without its newline: clock, party and event
unfoldable pub line_read : ℕ → FileAt → List ℕ → Result LineAt LogRule
line_read version file bytes =
    made (λ x. record { party = x.1.0; entry = record { clock = x.0; event = x.1.1.0; note = x.1.1.1 } })
    (next clock_read (next (party_read file) (event_read version file)) (words_in bytes))

-- a line and the lines after it, or the first rule that is broken, with its line
abbrev pub before : ℕ → Result LineAt LogRule → Result (List LineAt) (LogRule × ℕ) → Result (List LineAt) (LogRule × ℕ)
before n (Err r) more = Err (r, n)
before n (Ok l) (Err fault) = Err fault
before n (Ok l) (Ok ls) = Ok (l ∷ ls)

-- after the last newline nothing is left
abbrev pub last_read : ℕ → List ℕ → Result (List LineAt) (LogRule × ℕ)
last_read n [] = Ok []
last_read n (b ∷ bs) = Err (L4, n)

-- lines from that number on
abbrev pub lines_read : ℕ → FileAt → ℕ → List (List ℕ) → Result (List LineAt) (LogRule × ℕ)
lines_read version file n [] = Ok []
lines_read version file n (x ∷ []) = last_read n x
lines_read version file n (x ∷ y ∷ ys) = before n (line_read version file x) (lines_read version file (n + 1) (y ∷ ys))

-- a whole log of that version, split at its newlines; lines count from 1
abbrev pub log_read : ℕ → FileAt → List ℕ → Result (List LineAt) (LogRule × ℕ)
log_read version file bytes = lines_read version file 1 (slice_split (λ b. b == 10) bytes)

-- the bytes are the log of that version of these lines
abbrev pub SpellsLog : ℕ → FileAt → List ℕ → List LineAt → Type 0
SpellsLog version file bytes lines = log_read version file bytes ≡ Ok lines

-- the number of the first rule that is broken, and its line
abbrev pub fault_of : Result (List LineAt) (LogRule × ℕ) → Option (ℕ × ℕ)
fault_of (Ok lines) = None
fault_of (Err fault) = Some (rule_number fault.0, fault.1)

-- the first line that isn't in the grammar breaks that rule; `NoMemory` alone says nothing
abbrev pub IsFault : ℕ → FileAt → List ℕ → LogRefusal → Type 0
IsFault version file bytes refusals.NoMemory = ⊤
IsFault version file bytes (refusals.At rule line) = fault_of (log_read version file bytes) ≡ Some (rule, line)
