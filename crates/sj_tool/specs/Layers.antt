-- What answers the text of a file, and the bytes that a task takes: words of private functions,
-- which come to rows of the table.
use Rattle.std.specs.Prelude.{◌⊎◌, ℕ, List, []}
use Rattle.sj_lang.specs.FileAt.{FileAt}
use Rattle.sj_lang.specs.Limits.{limits}
use Rattle.sj_grammar.specs.Positions.{start}
use Rattle.sj_grammar.specs.Files.{IsFile}
use Rattle.sj_grammar.specs.FileDues.{file_layer, file_due}
use Rattle.sj_grammar.specs.Faults.{Stuck}
use Rattle.sj_command.specs.declared.tasks.Task.{Task}
use Rattle.sj_tool.specs.LogAt.{LogAt}
use Rattle.sj_tool.specs.AnswerAt.{AnswerAt, TooLarge, NoTalk, Syntax, LogFault}
use Rattle.sj_tool.specs.Answers.{AnswersFile, MissesLog}
use Rattle.sj_tool.specs.Calls.{LinkUseAt}
use Rattle.sj_tool.specs.Tasks.{HasLongText, HasParts, Takes, Talks}
use Rattle.sj_tool.specs.TalkParts.{HasNoTalk}

-- the text stands for a file, which the answer answers
pub record AnswersItsFile (links : LinkUseAt) (task : Task) (log : LogAt) (text : List ℕ) (a : AnswerAt) : Type 0 where
  pub file : FileAt
  pub stands : IsFile text file
  pub answers : AnswersFile links task log file a

-- what answers the text of a file
abbrev pub AnswersText : LinkUseAt → Task → (log : LogAt) (text : List ℕ) → AnswerAt → Type 0
AnswersText links task log text (Syntax fault) = Takes task × Stuck file_layer limits 0 (start text [] []) file_due fault
AnswersText links task log text a = AnswersItsFile links task log text a

-- the bytes have the text of a file, and a log where one is replayed, and the answer answers it
pub record AnswersParts (links : LinkUseAt) (task : Task) (bytes : List ℕ) (a : AnswerAt) : Type 0 where
  pub text : List ℕ
  pub log : LogAt
  pub parts : HasParts task bytes text log
  pub answers : AnswersText links task log text a

-- what answers the bytes that a task takes
abbrev pub AnswersBytes : LinkUseAt → Task → List ℕ → AnswerAt → Type 0
AnswersBytes links task bytes TooLarge = HasLongText task bytes
AnswersBytes links task bytes NoTalk = Talks task × HasNoTalk bytes
AnswersBytes links task bytes (LogFault rule line) = MissesLog task bytes rule line ⊎ AnswersParts links task bytes (LogFault rule line)
AnswersBytes links task bytes a = AnswersParts links task bytes a
