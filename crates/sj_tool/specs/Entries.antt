-- What is reported of an entry of a log, or of joined logs, that isn't the one that is due.
use Rattle.std.specs.Prelude.{◌≡◌, ℕ, max, List, [], ◌∷◌, ◌++◌, Option, Some, None, codes, decimal, option_map}
use Rattle.sj_lang.specs.FileAt.{FileAt}
use Rattle.sj_rules.specs.History.{IsFirstMisfit}
use Rattle.sj_rules.specs.Log.{LineAt}
use Rattle.sj_print.specs.LogLine.{head_words, note_words}
use Rattle.sj_end.specs.Lines.{line_at}
use Rattle.sj_run.specs.Damage.{IsDamage}
use Rattle.sj_run.specs.declared.refusal.RunRefusal.{RunRefusal}
use Rattle.sj_run.specs.declared.refusal.RunRefusal.TheVariants as refusals
use Rattle.sj_tool.specs.LogAt.{LogAt, Spells}
use Rattle.sj_tool.specs.AnswerAt.{AnswerAt, LinkFault, Damaged, Misfit}

-- words with one space between each two
abbrev pub spaced : List (List ℕ) → List ℕ
spaced [] = []
spaced (x ∷ []) = x
spaced (x ∷ y ∷ xs) = x ++ 32 ∷ spaced (y ∷ xs)

-- an entry as in a log, without the end of its line
abbrev pub entry_text : FileAt → LineAt → List ℕ
entry_text file l = spaced (head_words file l ++ note_words file l.entry.note)

-- an entry, or that there is none
abbrev pub due_text : FileAt → Option LineAt → List ℕ
due_text file None = codes "none"
due_text file (Some l) = entry_text file l

-- the entry's number, the entry itself, and the one that was due in its place
abbrev pub entry_line : (head : List ℕ) → FileAt → ℕ → LineAt → Option LineAt → List ℕ
entry_line head file number logged other =
    head ++ decimal number ++ codes " logged " ++ entry_text file logged ++ codes " due " ++ due_text file other ++ codes "\n"

-- of joined logs, and of a log that is replayed
abbrev pub damage_head : List ℕ
damage_head = codes "damaged entry "

abbrev pub misfit_head : List ℕ
misfit_head = codes "log entry "

-- the text reports the first entry of the joined logs of the parties that isn't due, or what the
-- lowest unfit party refused after them, and what was due
pub record IsDamageText (file : FileAt) (text : List ℕ) : Type 0 where
  pub number : ℕ
  pub logged : LineAt
  pub other : Option LineAt
  pub damage : IsDamage file number logged other
  pub told : text ≡ entry_line damage_head file number logged other

-- the text reports which entry of the log is the first that isn't due, and what was due
pub record IsMisfitText (file : FileAt) (log : LogAt) (text : List ℕ) : Type 0 where
  pub lines : List LineAt
  pub spells : Spells file log lines
  pub number : ℕ
  pub logged : LineAt
  pub other : Option LineAt
  pub misfit : IsFirstMisfit max file lines number logged other
  pub told : text ≡ entry_line misfit_head file number logged other

-- the answer reports that damage
abbrev pub IsDamagedBy : FileAt → ℕ → LineAt → Option LineAt → AnswerAt → Type 0
IsDamagedBy file number logged other (Damaged text) = text ≡ entry_line damage_head file number logged other
IsDamagedBy file number logged other _ = ⊥

-- the answer reports that misfit
abbrev pub IsToldMisfit : FileAt → ℕ → LineAt → Option LineAt → AnswerAt → Type 0
IsToldMisfit file number logged other (Misfit text) = text ≡ entry_line misfit_head file number logged other
IsToldMisfit file number logged other _ = ⊥

-- the answer reports the refusal; out of memory has no answer
abbrev pub IsToldSo : FileAt → RunRefusal → AnswerAt → Type 0
IsToldSo file refusals.LinkFault a = a ≡ LinkFault
IsToldSo file (refusals.Damaged m) a = IsDamagedBy file m.number (line_at m.logged) (option_map line_at m.due) a
IsToldSo file refusals.NoMemory a = ⊥
