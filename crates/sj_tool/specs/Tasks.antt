-- Kinds of tasks, the bytes that they take, and what a replay or a talk makes of these.
use Rattle.std.specs.Prelude.{◌≡◌, ◌<◌, ◌≤◌, ℕ, Bool, false, List, [], length, IfSome, ⊤}
use Rattle.sj_base.specs.Stream.{put_before}
use Rattle.sj_generator.specs.Generated.{generated}
use Rattle.sj_command.specs.declared.tasks.Task.{Task}
use Rattle.sj_command.specs.declared.tasks.Task.TheVariants as tasks
use Rattle.sj_command.specs.Task.{Asks, usual_looks}
use Rattle.sj_log.specs.Parts.{IsParted}
use Rattle.sj_tool.specs.LogAt.{LogAt, no_log}
use Rattle.sj_tool.specs.TalkParts.{IsTalk}
use Rattle.sj_tool.specs.Calls.{CallAt}
use Rattle.sj_lang.specs.Limits.{file_limit, source_limit}

-- ---- kinds of tasks

-- the words ask for a task of that kind
pub record AsksFor (P : Task → Type 0) (c : CallAt) : Type 0 where
  pub task : Task
  pub asks : Asks c.words task
  pub kind : P task

-- it reads its input
abbrev pub Reads : Task → Type 0
Reads (tasks.Make n) = ⊥
Reads (tasks.Big n) = ⊥
Reads _ = ⊤

-- it takes a file, which it reads or makes
abbrev pub Takes : Task → Type 0
Takes (tasks.Make n) = ⊥
Takes _ = ⊤

-- it takes a file and checks it
abbrev pub Checks : Task → Type 0
Checks (tasks.Make n) = ⊥
Checks tasks.Show = ⊥
Checks _ = ⊤

-- it runs the parties of a file over links
abbrev pub RunsParties : Task → Type 0
RunsParties (tasks.Run log looks workers) = ⊤
RunsParties (tasks.Big n) = ⊤
RunsParties _ = ⊥

-- it replays the log after a file
abbrev pub Replays : Task → Type 0
Replays (tasks.Replay log) = ⊤
Replays _ = ⊥

-- it lets lines play a party of a file
abbrev pub Talks : Task → Type 0
Talks (tasks.Talk n) = ⊤
Talks _ = ⊥

-- its source has a log or lines after the file
abbrev pub HasTail : Task → Type 0
HasTail (tasks.Replay log) = ⊤
HasTail (tasks.Talk n) = ⊤
HasTail _ = ⊥

-- it does the events of a history in the core: that of the parties, or that of a log
abbrev pub HasEvents : Task → Type 0
HasEvents (tasks.Run log looks workers) = ⊤
HasEvents (tasks.Replay log) = ⊤
HasEvents (tasks.Big n) = ⊤
HasEvents _ = ⊥

-- the most bytes of what a task reads
abbrev pub limit_of : Task → ℕ
limit_of (tasks.Replay log) = source_limit
limit_of (tasks.Talk n) = source_limit
limit_of _ = file_limit

-- how often a party looks in vain before it stops
abbrev pub looks_of : Task → ℕ
looks_of (tasks.Run log looks workers) = looks
looks_of _ = usual_looks

-- the log is printed after the transcript
abbrev pub asks_log : Task → Bool
asks_log (tasks.Run log looks workers) = log
asks_log (tasks.Replay log) = log
asks_log _ = false

-- ---- their bytes

-- the source was left as it was
abbrev pub IsUnread : CallAt → Type 0
IsUnread c = (c.left_after ≡ c.left) × (c.faults_after ≡ c.faults)

-- the bytes are all that was left, no more than the task takes, and no fault was counted
pub record IsRead (c : CallAt) (task : Task) (bytes : List ℕ) : Type 0 where
  pub few : length bytes ≤ limit_of task
  pub came : c.left ≡ put_before bytes c.left_after
  pub all : IfSome c.left_after (λ rest. rest ≡ [])
  pub no_fault : c.faults_after ≡ c.faults

-- the bytes are the generated file, or all that the source gives
abbrev pub HasInput : CallAt → Task → List ℕ → Type 0
HasInput c (tasks.Big n) bytes = IsUnread c × (bytes ≡ generated n)
HasInput c task bytes = IsRead c task bytes

-- the text of the file and what stands after it. Of a replay these are the two sides of its first
-- line `%%log` or `%%log2`, which names the version of the log. Of a talk they are those of its
-- first line `%%talk`
abbrev pub IsPartedFor : Task → (source text : List ℕ) (log : LogAt) → Type 0
IsPartedFor (tasks.Replay l) source text log = IsParted source text log.version log.bytes
IsPartedFor (tasks.Talk n) source text log = IsTalk source text log.bytes × (log.version ≡ 1)
IsPartedFor _ source text log = ⊥

-- what stands before the line that parts the source is more than a file may have
pub record HasLongText (task : Task) (source : List ℕ) : Type 0 where
  pub text : List ℕ
  pub log : LogAt
  pub parts : IsPartedFor task source text log
  pub long : file_limit < length text

-- the text of the file, and the log that is replayed or the lines that are played
abbrev pub HasParts : Task → (bytes text : List ℕ) (log : LogAt) → Type 0
HasParts (tasks.Replay l) bytes text log = IsPartedFor (tasks.Replay l) bytes text log × (length text ≤ file_limit)
HasParts (tasks.Talk n) bytes text log = IsPartedFor (tasks.Talk n) bytes text log × (length text ≤ file_limit)
HasParts task bytes text log = (text ≡ bytes) × (log ≡ no_log)
