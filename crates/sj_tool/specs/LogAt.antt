-- What stands after a file: a log that is replayed, by its bytes and the version of its form, or
-- the lines of a talk.
use Rattle.std.specs.Prelude.{ℕ, List, []}
use Rattle.sj_lang.specs.FileAt.{FileAt}
use Rattle.sj_log.specs.LogText.{IsFault, SpellsLog}
use Rattle.sj_log.specs.declared.refusal.LogRefusal.TheVariants.{At}
use Rattle.sj_rules.specs.Log.{LineAt}

-- version 2 reports sessions that are opened at run time; lines of a talk are of version 1
pub record LogAt : Type 0 where
  pub version : ℕ
  pub bytes : List ℕ

abbrev pub log_at : ℕ → List ℕ → LogAt
log_at version bytes = record { version = version; bytes = bytes }

-- what stands in its place where nothing is after the file
abbrev pub no_log : LogAt
no_log = log_at 1 []

-- it is the log of these lines
abbrev pub Spells : FileAt → LogAt → List LineAt → Type 0
Spells file log lines = SpellsLog log.version file log.bytes lines

-- its first line that isn't in the grammar breaks that rule
abbrev pub Breaks : FileAt → LogAt → (rule line : ℕ) → Type 0
Breaks file log rule line = IsFault log.version file log.bytes (At rule line)
