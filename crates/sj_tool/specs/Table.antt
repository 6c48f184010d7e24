-- What is asked of the table of answers itself.
use Rattle.std.specs.Prelude.{◌≡◌, ◌≢◌, ◌⊎◌, ◌<◌, ◌≤◌, ◌-◌, ◌^◌, ℕ, true, List, [], ◌++◌, Option, Some, ⊤}
use Rattle.sj_base.specs.Stream.{CameOf, Rose}
use Rattle.sj_lang.specs.FileAt.{FileAt}
use Rattle.sj_lang.specs.Place.{Place}
use Rattle.sj_grammar.specs.Files.{IsFile}
use Rattle.sj_acceptance.specs.Accepted.{IsAccepted}
use Rattle.sj_rules.specs.Log.{LineAt}
use Rattle.sj_rules.specs.World.{WorldAt}
use Rattle.sj_semantics.specs.Program.{Program}
use Rattle.sj_semantics.specs.Run.{end_of}
use Rattle.sj_semantics.specs.Transcript.{transcript_of}
use Rattle.sj_tool.specs.AnswerAt.{AnswerAt, Usage, ReadFault, TooLarge, LinkFault, Damaged, Ran, Made}
use Rattle.sj_command.specs.declared.tasks.Task.{Task}
use Rattle.sj_command.specs.declared.tasks.Task.TheVariants as tasks
use Rattle.sj_command.specs.Task.{Asks}
use Rattle.sj_tool.specs.Calls.{CallAt, LinkUseAt, LinksHold}
use Rattle.sj_tool.specs.LogAt.{LogAt, no_log}
use Rattle.sj_tool.specs.Tasks.{AsksFor, HasInput, HasTail, Reads, RunsParties, limit_of}
use Rattle.sj_tool.specs.Answers.{Answers, HoldsFile}
use Rattle.sj_tool.specs.Runs.{HasBegun, HasHistory, log_part}
use Rattle.sj_tool.specs.Texts.{status_of, text_of}

-- it prints the history of parties that ran
abbrev pub LogsRun : Task → Type 0
LogsRun (tasks.Run true looks workers) = ⊤
LogsRun _ = ⊥

-- the text is the file's transcript, and after it the log of a history that the task has of the
-- file, which leaves nothing to do
pub record IsLogText (links : LinkUseAt) (task : Task) (log : LogAt) (file : FileAt) (text : List ℕ) : Type 0 where
  pub history : List LineAt
  pub core : WorldAt Place Program
  pub has : HasHistory links task log file history core
  pub is : text ≡ transcript_of file (end_of file) ++ log_part true file history

-- the task prints a history of the file's parties, and both texts are such: the order in which the
-- parties act is theirs
pub record AreLogs (links : LinkUseAt) (task : Task) (log : LogAt) (file : FileAt) (s t : List ℕ) : Type 0 where
  pub logs : LogsRun task
  pub first : IsLogText links task log file s
  pub second : IsLogText links task log file t

-- so they are of the file that the call holds
abbrev pub AreOneLog : CallAt → (s t : List ℕ) → Type 0
AreOneLog c s t = (h : HoldsFile c) × AreLogs c.links h.task h.log h.file s t

-- the two have one status and one text, up to the history where the words ask for it
pub record AreOne (c : CallAt) (a b : AnswerAt) : Type 0 where
  pub status : status_of a ≡ status_of b
  pub text : (text_of a ≡ text_of b) ⊎ AreOneLog c (text_of a) (text_of b)

-- an answer that is one with that one is written, and its status is answered
pub record AnswersAs (c : CallAt) (status : ℕ) (before after : Option (List ℕ)) (a : AnswerAt) : Type 0 where
  pub answer : AnswerAt
  pub one : AreOne c answer a
  pub answers : Answers c status before after answer

-- the count of faults isn't at its last value, from which it can't rise
abbrev pub CanRise : CallAt → Type 0
CanRise c = c.faults ≢ 2 ^ 64 - 1

-- a task that reads took all that was left, or more than it may have
abbrev pub WasRead : Task → CallAt → Type 0
WasRead task c =
    CameOf (λ n. limit_of task < n) c.left c.left_after
    ⊎ (CameOf (λ n. n ≤ limit_of task) c.left c.left_after × (c.left_after ≡ Some []))

-- the source was read where the words ask for a task that reads, and else it is as it was
pub record IsReadAsAsked (c : CallAt) : Type 0 where
  pub read : (task : Task) → Asks c.words task → Reads task → WasRead task c
  pub unread : (AsksFor Reads c → ⊥) → c.left_after ≡ c.left

-- where the parties of the call's file run over links that hold, these show lines that lead from
-- its start
abbrev pub ShowsItsRun : CallAt → Type 0
ShowsItsRun c =
    (task : Task) (bytes : List ℕ) (file : FileAt) → Asks c.words task → RunsParties task → HasInput c task bytes
    → IsFile bytes file → IsAccepted file → LinksHold c.links → HasBegun c.links task no_log file

-- where parties run, the links hold
abbrev pub RunsWell : CallAt → Type 0
RunsWell c = AsksFor RunsParties c → LinksHold c.links

-- no fault stands above the answer: what the words or too many bytes say comes before. Else no read
-- fault was counted, and where parties run the links hold
abbrev pub NoFaultAbove : CallAt → AnswerAt → Type 0
NoFaultAbove c Usage = ⊤
NoFaultAbove c ReadFault = ⊥
NoFaultAbove c TooLarge = AsksFor HasTail c → ¬ Rose c.faults c.faults_after
NoFaultAbove c LinkFault = ⊥
NoFaultAbove c (Damaged text) = ⊥
NoFaultAbove c (Ran verdict text) = ¬ Rose c.faults c.faults_after × (AsksFor RunsParties c → LinksHold c.links)
NoFaultAbove c (Made text) = ⊤
NoFaultAbove c _ = ¬ Rose c.faults c.faults_after
