-- Two calls: the one runs a file and reports the log of the run, the other replays that log after
-- the file.
use Rattle.std.specs.Prelude.{◌≡◌, ◌⊎◌, ℕ, ◌≤◌, true, List, ◌++◌, length, codes, Some}
use Rattle.sj_lang.specs.FileAt.{FileAt}
use Rattle.sj_lang.specs.Limits.{file_limit}
use Rattle.sj_grammar.specs.Files.{IsFile}
use Rattle.sj_log.specs.Parts.{AreLines}
use Rattle.sj_semantics.specs.declared.Verdict.{Verdict}
use Rattle.sj_semantics.specs.Run.{end_of}
use Rattle.sj_semantics.specs.Transcript.{transcript_of}
use Rattle.sj_command.specs.declared.tasks.Task.TheVariants as tasks
use Rattle.sj_command.specs.Task.{Asks}
use Rattle.sj_tool.specs.AnswerAt.{AnswerAt, Ran}
use Rattle.sj_tool.specs.Answers.{IsInTable}
use Rattle.sj_tool.specs.Calls.{CallAt}
use Rattle.sj_tool.specs.Table.{LogsRun}
use Rattle.sj_tool.specs.Tasks.{AsksFor, IsRead}

-- what is reported of a run of a file: how it ended, its transcript, and the log after it
abbrev pub told_of : FileAt → Verdict → (log : List ℕ) → AnswerAt
told_of file verdict log = Ran verdict (transcript_of file (end_of file) ++ log)

-- `run --log` reports that of the file that its source holds
pub record TellsLog (c : CallAt) (text : List ℕ) (file : FileAt) (verdict : Verdict) (log : List ℕ) : Type 0 where
  pub asks : AsksFor LogsRun c
  pub left : c.left ≡ Some text
  pub stands : IsFile text file
  pub told : IsInTable c (told_of file verdict log)

-- the text in whole lines: as it is, or with a newline after its last line; a file may be so long
pub record IsInLines (text whole : List ℕ) : Type 0 where
  pub same : (whole ≡ text) ⊎ (whole ≡ text ++ codes "\n")
  pub lines : AreLines whole
  pub few : length whole ≤ file_limit

-- `replay --log` reads these bytes, all that its source gives
pub record ReplaysAll (d : CallAt) (bytes : List ℕ) : Type 0 where
  pub asks : Asks d.words (tasks.Replay true)
  pub read : IsRead d (tasks.Replay true) bytes
