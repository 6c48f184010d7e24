-- The status and the text of each answer.
use Rattle.std.specs.Prelude.{◌≡◌, ℕ, List, [], ◌∷◌, ◌++◌, codes, decimal, length, ⊤}
pub use Rattle.sj_text.specs.Statuses.{read_fault_status, too_large_status, write_fault_status, no_memory_status}
use Rattle.sj_lang.specs.FileAt.{FileAt}
use Rattle.sj_grammar.specs.Rules.{rule_number}
use Rattle.sj_semantics.specs.declared.Verdict.{Verdict}
use Rattle.sj_semantics.specs.declared.Verdict.TheVariants.{Done, Blocked, Long}
use Rattle.sj_semantics.specs.Transcript.{line_of}
use Rattle.sj_tool.specs.AnswerAt.{AnswerAt, Usage, ReadFault, TooLarge, NoTalk, Syntax, Check, NoParty, LogFault, Misfit, LinkFault, Damaged, Ran, Printed, Made}

abbrev pub verdict_status : Verdict → ℕ
verdict_status Done = 0
verdict_status Blocked = 6
verdict_status Long = 7

abbrev pub status_of : AnswerAt → ℕ
status_of Usage = 1
status_of ReadFault = read_fault_status
status_of TooLarge = too_large_status
status_of (Syntax fault) = 4
status_of (Check rule line) = 5
status_of NoTalk = 12
status_of (NoParty number) = 14
status_of (LogFault rule line) = 12
status_of (Misfit text) = 12
status_of LinkFault = 8
status_of (Damaged text) = 9
status_of (Ran verdict text) = verdict_status verdict
status_of (Printed text) = 0
status_of (Made text) = 0

-- the answer stands below the row of the size: where the task reads, the source was read to its end
abbrev pub IsReadWhole : AnswerAt → Type 0
IsReadWhole Usage = ⊥
IsReadWhole ReadFault = ⊥
IsReadWhole TooLarge = ⊥
IsReadWhole _ = ⊤

-- the status of such an answer
abbrev pub IsBelowSize : ℕ → Type 0
IsBelowSize status = (a : AnswerAt) × (status ≡ status_of a) × IsReadWhole a

-- which rule is broken, of files or of logs, and on which line
abbrev pub rule_line : (kind letter : List ℕ) → (rule line : ℕ) → List ℕ
rule_line kind letter rule line = line_of (kind ∷ (letter ++ decimal rule) ∷ codes "at" ∷ decimal line ∷ [])

abbrev pub text_of : AnswerAt → List ℕ
text_of Usage = codes "usage: sj check | show | sim | run [--log] [--looks N] | replay [--log] | make N | big N\n"
text_of ReadFault = codes "read fault\n"
text_of TooLarge = codes "too large\n"
text_of (Syntax fault) = line_of (codes "syntax" ∷ (codes "P" ++ decimal (rule_number fault.rule)) ∷ codes "at" ∷ (decimal fault.line ++ (codes ":" ++ decimal fault.column)) ∷ [])
text_of (Check rule line) = rule_line (codes "check") (codes "C") rule line
text_of NoTalk = codes "talk L1 at 0\n"
text_of (NoParty number) = line_of (codes "no" ∷ codes "party" ∷ decimal number ∷ [])
text_of (LogFault rule line) = rule_line (codes "log") (codes "L") rule line
text_of (Misfit text) = text
text_of LinkFault = codes "link fault\n"
text_of (Damaged text) = text
text_of (Ran verdict text) = text
text_of (Printed text) = text
text_of (Made text) = text

-- the counts of an accepted file
abbrev pub counts_of : FileAt → List ℕ
counts_of file = line_of (codes "accepted" ∷ codes "parties" ∷ decimal (length file.parties) ∷ codes "sessions" ∷ decimal (length file.connects) ∷ [])
