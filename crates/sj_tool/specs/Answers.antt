-- The table of answers, in the order of refusals.
use Rattle.std.specs.Prelude.{◌≡◌, ◌⊎◌, ◌<◌, ◌≤◌, ℕ, List, [], Option, Some, length, true}
use Rattle.sj_base.specs.Stream.{Rose, CameOf, put_behind}
use Rattle.sj_lane.specs.Told as lanes
use Rattle.sj_lang.specs.FileAt.{FileAt}
use Rattle.sj_lang.specs.Limits.{limits}
use Rattle.sj_grammar.specs.Positions.{start}
use Rattle.sj_grammar.specs.Files.{IsFile}
use Rattle.sj_grammar.specs.FileDues.{file_layer, file_due}
use Rattle.sj_grammar.specs.Faults.{Stuck}
use Rattle.sj_grammar.specs.declared.tokens.Fault.{Fault}
use Rattle.sj_acceptance.specs.Accepted.{IsAccepted}
use Rattle.sj_acceptance.specs.Faults.{first_fault}
use Rattle.sj_acceptance.specs.FileTests.{tests_of}
use Rattle.sj_generator.specs.Generated.{generated}
use Rattle.sj_log.specs.Parts.{HasNoPart}
use Rattle.sj_command.specs.declared.tasks.Task.{Task}
use Rattle.sj_command.specs.declared.tasks.Task.TheVariants as tasks
use Rattle.sj_command.specs.Task.{Asks, IsUsage}
use Rattle.sj_tool.specs.LogAt.{Breaks, LogAt}
use Rattle.sj_tool.specs.AnswerAt.{AnswerAt, Usage, ReadFault, TooLarge, NoTalk, Syntax, Check, NoParty, LogFault, Misfit, LinkFault, Damaged, Ran, Printed, Made}
use Rattle.sj_tool.specs.Calls.{CallAt, LinkUseAt}
use Rattle.sj_tool.specs.Entries.{IsDamageText, IsMisfitText}
use Rattle.sj_tool.specs.Tasks.{AsksFor, Checks, HasInput, HasLongText, HasParts, IsUnread, Reads, Replays, RunsParties, Takes, Talks, limit_of}
use Rattle.sj_tool.specs.Runs.{Plays, Prints}
use Rattle.sj_tool.specs.TalkParts.{HasNoTalk}
pub use Rattle.sj_text.specs.Statuses.{OrYields}
use Rattle.sj_tool.specs.Texts.{status_of, text_of}

-- the task plays a party of that number, which the file hasn't
abbrev pub LacksParty : Task → ℕ → FileAt → Type 0
LacksParty (tasks.Talk n) number file = (number ≡ n) × (length file.parties ≤ n)
LacksParty _ number file = ⊥

-- what answers a file, with the log that is replayed or the lines that are played
abbrev pub AnswersFile : LinkUseAt → Task → (log : LogAt) → FileAt → AnswerAt → Type 0
AnswersFile links task log file (Check rule line) = Checks task × (first_fault (tests_of file) ≡ Some (rule, line))
AnswersFile links task log file (NoParty number) = IsAccepted file × LacksParty task number file
AnswersFile links task log file (LogFault rule line) = IsAccepted file × Replays task × Breaks file log rule line
AnswersFile links task log file (Misfit text) = IsAccepted file × Replays task × IsMisfitText file log text
AnswersFile links task log file LinkFault = IsAccepted file × RunsParties task × lanes.Rose links.faults links.faults_after
AnswersFile links task log file (Damaged text) = IsAccepted file × RunsParties task × (links.tells ≡ true → ⊥) × IsDamageText file text
AnswersFile links task log file (Ran verdict text) = IsAccepted file × Plays links task log file verdict text
AnswersFile links task log file (Printed text) = Prints task file text
AnswersFile links task log file _ = ⊥

-- no line of a source is `%%log` or `%%log2`, which is reported as rule 1 at line 0
abbrev pub MissesLog : Task → List ℕ → (rule line : ℕ) → Type 0
MissesLog task bytes rule line = Replays task × HasNoPart bytes × (rule ≡ 1) × (line ≡ 0)

-- the words ask for a task, and these are the bytes that it takes
pub record HoldsBytes (c : CallAt) : Type 0 where
  pub task : Task
  pub asks : Asks c.words task
  pub bytes : List ℕ
  pub input : HasInput c task bytes

-- what the bytes of a call hold: the text of a file, and a log where one is replayed, or lines
-- where they play a party
pub record HoldsFile (c : CallAt) : Type 0 where
  pub task : Task
  pub asks : Asks c.words task
  pub bytes : List ℕ
  pub input : HasInput c task bytes
  pub text : List ℕ
  pub log : LogAt
  pub parts : HasParts task bytes text log
  pub file : FileAt
  pub stands : IsFile text file

-- the words ask for a task of that kind, and the file that its bytes hold is accepted
pub record HoldsAccepted (P : Task → Type 0) (c : CallAt) : Type 0 where
  pub held : HoldsFile c
  pub kind : P held.task
  pub accepted : IsAccepted held.file

-- the bytes have a text that stands for no file: its first fault
pub record HasWrongText (task : Task) (bytes : List ℕ) (fault : Fault) : Type 0 where
  pub text : List ℕ
  pub log : LogAt
  pub parts : HasParts task bytes text log
  pub takes : Takes task
  pub stuck : Stuck file_layer limits 0 (start text [] []) file_due fault

-- the words ask for the generated file, and nothing is read
pub record Makes (c : CallAt) (printed : List ℕ) : Type 0 where
  pub count : ℕ
  pub asks : Asks c.words (tasks.Make count)
  pub text : printed ≡ generated count
  pub unread : IsUnread c

-- a task reads, and of its source as many bytes came as P says: P is asked of the count and of the
-- most that the task reads
abbrev pub Came : (ℕ → ℕ → Type 0) → CallAt → Type 0
Came P c = AsksFor (λ task. Reads task × CameOf (λ n. P n (limit_of task)) c.left c.left_after) c

-- where each answer comes; a row is read where none above it came
abbrev pub IsInTable : CallAt → AnswerAt → Type 0
IsInTable c Usage = IsUsage c.words × IsUnread c
IsInTable c ReadFault = Came (λ n most. n ≤ most) c × Rose c.faults c.faults_after
IsInTable c TooLarge = (Came (λ n most. most < n) c × (c.faults_after ≡ c.faults)) ⊎ ((h : HoldsBytes c) × HasLongText h.task h.bytes)
IsInTable c NoTalk = (h : HoldsBytes c) × Talks h.task × HasNoTalk h.bytes
IsInTable c (Syntax fault) = (h : HoldsBytes c) × HasWrongText h.task h.bytes fault
IsInTable c (LogFault rule line) =
    ((h : HoldsBytes c) × MissesLog h.task h.bytes rule line) ⊎ ((h : HoldsFile c) × AnswersFile c.links h.task h.log h.file (LogFault rule line))
IsInTable c (Made text) = Makes c text
IsInTable c a = (h : HoldsFile c) × AnswersFile c.links h.task h.log h.file a

-- the answer that comes is written after what was written before, and its status is answered
abbrev pub Answers : CallAt → ℕ → Option (List ℕ) → Option (List ℕ) → AnswerAt → Type 0
Answers c status before after a = (status ≡ status_of a) × (after ≡ put_behind before (text_of a))
