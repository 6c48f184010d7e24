-- What is answered over the workers and lanes of a call: words of private functions, which come to
-- those of specs/Over.
use Rattle.std.specs.Prelude.{ℕ, List, ⊤}
use Rattle.sj_lang.specs.FileAt.{FileAt}
use Rattle.sj_lane.specs.declared.lane.OutLane.{Ghosts as OutLane}
use Rattle.sj_lane.specs.declared.lane.InLane.{Ghosts as InLane}
use Rattle.sj_lang.specs.Place.{Place}
use Rattle.sj_grammar.specs.Files.{IsFile}
use Rattle.sj_rules.specs.Log.{LineAt}
use Rattle.sj_rules.specs.World.{WorldAt}
use Rattle.sj_semantics.specs.Program.{Program}
use Rattle.sj_semantics.specs.declared.Verdict.{Verdict}
use Rattle.sj_run.specs.Workers.{AreLoggedOver}
use Rattle.sj_command.specs.declared.tasks.Task.{Task}
use Rattle.sj_tool.specs.AnswerAt.{AnswerAt, Damaged, Ran}
use Rattle.sj_tool.specs.Calls.{CallAt, LinkUseAt}
use Rattle.sj_tool.specs.LogAt.{LogAt}
use Rattle.sj_tool.specs.Over.{HasRunOver, IsDamageTextOver, TellsDamage, TellsRun}
use Rattle.sj_tool.specs.Runs.{HasHistory}
use Rattle.sj_tool.specs.Tasks.{AsksFor, RunsParties, looks_of}

module _ {O I : Type 0} (outward : OutLane O) (inward : InLane I) (joined : O → I → Type 0) where
  -- the lines with which the history begins are the joined logs of workers that worked over such
  -- lanes
  pub record HasHistoryOver (links : LinkUseAt) (task : Task) (log : LogAt) (file : FileAt) (history : List LineAt) (core : WorldAt Place Program) : Type 0 where
    pub has : HasHistory links task log file history core
    pub logged : AreLoggedOver outward inward joined file (looks_of task) links.tells has.begun.lines

  -- where a file whose parties the task runs is answered so, damage or a run comes of such workers
  abbrev pub ComesOfFile : LinkUseAt → Task → FileAt → AnswerAt → Type 0
  ComesOfFile links task file (Damaged text) = IsDamageTextOver outward inward joined links task file text
  ComesOfFile links task file (Ran verdict text) = (log : LogAt) → HasRunOver outward inward joined links task log file verdict text
  ComesOfFile links task file _ = ⊤

  -- the source stands for a file, whose parties the task runs, and of which the text reports such
  -- damage
  pub record TellsDamageIn (links : LinkUseAt) (task : Task) (source text : List ℕ) : Type 0 where
    pub file : FileAt
    pub stands : IsFile source file
    pub runs : RunsParties task
    pub told : IsDamageTextOver outward inward joined links task file text

  -- the source stands for a file that was run so
  pub record TellsRunIn (links : LinkUseAt) (task : Task) (source : List ℕ) (verdict : Verdict) (text : List ℕ) : Type 0 where
    pub file : FileAt
    pub stands : IsFile source file
    pub ran : (log : LogAt) → HasRunOver outward inward joined links task log file verdict text

  -- where a source is answered so
  abbrev pub ComesIn : LinkUseAt → Task → (source : List ℕ) → AnswerAt → Type 0
  ComesIn links task source (Damaged text) = TellsDamageIn links task source text
  ComesIn links task source (Ran verdict text) = RunsParties task → TellsRunIn links task source verdict text
  ComesIn links task source _ = ⊤

  -- where a call is answered so
  abbrev pub ComesOf : CallAt → AnswerAt → Type 0
  ComesOf c (Damaged text) = TellsDamage outward inward joined c text
  ComesOf c (Ran verdict text) = AsksFor RunsParties c → TellsRun outward inward joined c verdict text
  ComesOf c _ = ⊤
