-- What is answered to the text of a file: what `sj check` answers, and more after it.
use Rattle.std.specs.Prelude.{◌≡◌, ℕ, Bool, true, List, [], ◌∷◌, ◌++◌, Some, codes, decimal, length}
use Rattle.sj_lang.specs.FileAt.{FileAt}
use Rattle.sj_lang.specs.Limits.{limits}
use Rattle.sj_grammar.specs.Rules.{rule_number}
use Rattle.sj_grammar.specs.Positions.{start}
use Rattle.sj_grammar.specs.Files.{IsFile}
use Rattle.sj_grammar.specs.FileDues.{file_layer, file_due}
use Rattle.sj_grammar.specs.Faults.{Stuck}
use Rattle.sj_acceptance.specs.Accepted.{IsAccepted}
use Rattle.sj_acceptance.specs.Faults.{first_fault}
use Rattle.sj_acceptance.specs.FileTests.{tests_of}
use Rattle.sj_check.specs.Rules.{number_of}
use Rattle.sj_semantics.specs.Lines.{line_of}
use Rattle.sj_explain.specs.declared.answers.CheckAnswer.{CheckAnswer}
use Rattle.sj_explain.specs.declared.answers.CheckAnswer.TheVariants.{Syntax, Check, Accepted}

-- the text stands for a file whose first fault that is
pub record IsFaulty (text : List ℕ) (rule line : ℕ) : Type 0 where
  pub file : FileAt
  pub stands : IsFile text file
  pub fault : first_fault (tests_of file) ≡ Some (rule, line)

-- the text stands for an accepted file with so many parties and connections
pub record IsRight (text : List ℕ) (parties sessions : ℕ) : Type 0 where
  pub file : FileAt
  pub stands : IsFile text file
  pub accepted : IsAccepted file
  pub parties_are : parties ≡ length file.parties
  pub sessions_are : sessions ≡ length file.connects

-- what reading the text and checking its file come to
abbrev pub IsAnswer : List ℕ → CheckAnswer → Type 0
IsAnswer text (Syntax fault) = Stuck file_layer limits 0 (start text [] []) file_due fault
IsAnswer text (Check rule line) = IsFaulty text (number_of rule) line
IsAnswer text (Accepted parties sessions) = IsRight text parties sessions

abbrev pub status_of : CheckAnswer → ℕ
status_of (Syntax fault) = 4
status_of (Check rule line) = 5
status_of (Accepted parties sessions) = 0

-- the line of it, which `sj check` prints alone
abbrev pub answer_line : CheckAnswer → List ℕ
answer_line (Syntax fault) =
    let place = decimal fault.line ++ (codes ":" ++ decimal fault.column) in
    line_of (codes "syntax" ∷ (codes "P" ++ decimal (rule_number fault.rule)) ∷ codes "at" ∷ place ∷ [])
answer_line (Check rule line) = line_of (codes "check" ∷ (codes "C" ++ decimal (number_of rule)) ∷ codes "at" ∷ decimal line ∷ [])
answer_line (Accepted parties sessions) =
    line_of (codes "accepted" ∷ codes "parties" ∷ decimal parties ∷ codes "sessions" ∷ decimal sessions ∷ [])

-- the beginning of a text that says it; of an accepted file it may be a picture instead
abbrev pub lead_of : CheckAnswer → Bool → List ℕ
lead_of (Accepted parties sessions) true = codes "<svg "
lead_of answer drawn = answer_line answer

-- the text says the answer, and then more
pub record TellsIt (answer : CheckAnswer) (drawn : Bool) (text : List ℕ) : Type 0 where
  pub more : List ℕ
  pub is : text ≡ lead_of answer drawn ++ more
