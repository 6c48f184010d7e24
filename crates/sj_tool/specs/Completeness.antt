-- Inputs that are valid for a task, and what is reported of them.
use Rattle.std.specs.Prelude.{◌≡◌, ◌<◌, ◌≤◌, ℕ, Bool, false, List, [], ◌∷◌, ◌++◌, Option, Some, codes, decimal, length, ⊤}
use Rattle.sj_base.specs.Stream.{Rose, put_behind}
use Rattle.sj_lang.specs.FileAt.{FileAt}
use Rattle.sj_grammar.specs.Files.{IsFile}
use Rattle.sj_acceptance.specs.Accepted.{IsAccepted}
use Rattle.sj_semantics.specs.Run.{end_of}
use Rattle.sj_semantics.specs.State.{verdict_of}
use Rattle.sj_semantics.specs.Transcript.{line_of, transcript_of}
use Rattle.sj_generator.specs.Generated.{generated}
use Rattle.sj_command.specs.declared.tasks.Task.{Task}
use Rattle.sj_command.specs.declared.tasks.Task.TheVariants as tasks
use Rattle.sj_command.specs.Task.{Asks}
use Rattle.sj_talk.specs.Output.{talk_end, talk_text}
use Rattle.sj_talk.specs.TalkWorld.{talk_start}
use Rattle.sj_tool.specs.LogAt.{LogAt}
use Rattle.sj_tool.specs.Calls.{CallAt, LinkUseAt, LinksHold}
use Rattle.sj_tool.specs.Runs.{HasBegun}
use Rattle.sj_tool.specs.Tasks.{Checks, HasParts, Replays, RunsParties, limit_of}
use Rattle.sj_tool.specs.Shown.{shown}
use Rattle.sj_tool.specs.ForestTexts.{IsForestText}
use Rattle.sj_tool.specs.Forwards.{IsForwardText}
use Rattle.sj_tool.specs.Texts.{counts_of, verdict_status}
use Rattle.sj_generator_laws.specs.Counts.{generated_parties, generated_sessions, generated_messages, generated_steps}

-- where the task plays a party, the file has one of its number
abbrev pub HasItsParty : Task → FileAt → Type 0
HasItsParty (tasks.Talk n) file = n < length file.parties
HasItsParty _ file = ⊤

-- all that is left, no more than the task takes, has the text of the file, and no fault was
-- counted. The file is accepted where the task checks it, and each line of a log that is replayed
-- is the one that is due. A party that is played is there, and the links are good where parties run
pub record IsValidFile (good : LinkUseAt → Type 0) (c : CallAt) (task : Task) (file : FileAt) (log : LogAt) : Type 0 where
  pub bytes : List ℕ
  pub left : c.left ≡ Some bytes
  pub few : length bytes ≤ limit_of task
  pub text : List ℕ
  pub parts : HasParts task bytes text log
  pub stands : IsFile text file
  pub fits : Replays task → HasBegun c.links task log file
  pub party : HasItsParty task file
  pub no_fault : ¬ Rose c.faults c.faults_after
  pub accepted : Checks task → IsAccepted file
  pub links : RunsParties task → good c.links

-- the words ask for the task, and the input is valid for it; nothing is asked of an input that
-- isn't read, and the links are good where parties run
abbrev pub IsValidOver : (good : LinkUseAt → Type 0) → CallAt → Task → FileAt → (log : LogAt) → Type 0
IsValidOver good c (tasks.Make n) file log = Asks c.words (tasks.Make n)
IsValidOver good c (tasks.Big n) file log = Asks c.words (tasks.Big n) × good c.links
IsValidOver good c task file log = Asks c.words task × IsValidFile good c task file log

-- so it is over links that hold
abbrev pub IsValid : CallAt → Task → FileAt → (log : LogAt) → Type 0
IsValid c task file log = IsValidOver LinksHold c task file log

-- the status is the verdict of the file's end, and its transcript comes first; nothing else comes
-- but where the log is asked for
pub record TellsEnd (log : Bool) (file : FileAt) (status : ℕ) (text : List ℕ) : Type 0 where
  pub verdict : status ≡ verdict_status (verdict_of (end_of file))
  pub behind : List ℕ
  pub transcript : text ≡ transcript_of file (end_of file) ++ behind
  pub bare : log ≡ false → behind ≡ []

-- the status is the verdict of the file's end, and its transcript and the number of deliveries are
-- the text
abbrev pub TellsForwarded : FileAt → ℕ → List ℕ → Type 0
TellsForwarded file status text = (status ≡ verdict_status (verdict_of (end_of file))) × IsForwardText file text

-- the status is the verdict of the talk over these lines, and what is printed of it is the text
abbrev pub TellsTalk : (party : ℕ) → FileAt → (lines : List ℕ) → ℕ → List ℕ → Type 0
TellsTalk party file lines status text =
    (status ≡ verdict_status (talk_end (talk_start file party) lines)) × (text ≡ talk_text (talk_start file party) lines)

-- the summary of the generated file whose loops send n messages each
abbrev pub big_text : ℕ → List ℕ
big_text n =
    line_of (
    codes "big" ∷ decimal n ∷ codes "parties" ∷ decimal generated_parties ∷ codes "sessions" ∷ decimal generated_sessions ∷ codes "messages" ∷ decimal (generated_messages n)
    ∷ codes "steps" ∷ decimal (generated_steps n) ∷ [])
    ++ line_of (codes "done" ∷ [])

-- the status and the text that a task has for an input that is valid for it
abbrev pub Completes : Task → FileAt → (log : LogAt) → ℕ → List ℕ → Type 0
Completes tasks.Check file log status text = (status ≡ 0) × (text ≡ counts_of file)
Completes tasks.Show file log status text = (status ≡ 0) × (text ≡ shown file)
Completes tasks.Forest file log status text = (status ≡ 0) × IsForestText file text
Completes tasks.Sim file log status text = TellsEnd false file status text
Completes (tasks.Run l looks workers) file log status text = TellsEnd l file status text
Completes tasks.Forward file log status text = TellsForwarded file status text
Completes (tasks.Replay l) file log status text = TellsEnd l file status text
Completes (tasks.Talk n) file log status text = TellsTalk n file log.bytes status text
Completes (tasks.Make n) file log status text = (status ≡ 0) × (text ≡ generated n)
Completes (tasks.Big n) file log status text = (status ≡ 0) × (text ≡ big_text n)

-- that text is written after what was written before, and that status is answered
pub record CompletesSo (task : Task) (file : FileAt) (log : LogAt) (status : ℕ) (before after : Option (List ℕ)) : Type 0 where
  pub text : List ℕ
  pub completes : Completes task file log status text
  pub written : after ≡ put_behind before text
