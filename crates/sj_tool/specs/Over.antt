-- What is reported of damage and of a run, with the workers and lanes of which it comes.
use Rattle.std.specs.Prelude.{◌≡◌, ℕ, List, Option}
use Rattle.sj_lang.specs.FileAt.{FileAt}
use Rattle.sj_lane.specs.declared.lane.OutLane.{Ghosts as OutLane}
use Rattle.sj_lane.specs.declared.lane.InLane.{Ghosts as InLane}
use Rattle.sj_base.specs.Stream.{put_behind}
use Rattle.sj_semantics.specs.declared.Verdict.{Verdict}
use Rattle.sj_run.specs.Refusals.{IsDamageOver}
use Rattle.sj_run.specs.Workers.{AreLoggedOver}
use Rattle.sj_command.specs.declared.tasks.Task.{Task}
use Rattle.sj_tool.specs.Answers.{HoldsFile}
use Rattle.sj_tool.specs.Calls.{CallAt, LinkUseAt}
use Rattle.sj_tool.specs.Entries.{IsDamageText}
use Rattle.sj_tool.specs.LogAt.{LogAt}
use Rattle.sj_tool.specs.Runs.{HasRun}
use Rattle.sj_tool.specs.Tasks.{looks_of}
use Rattle.sj_tool.specs.Texts.{verdict_status}

module _ {O I : Type 0} (outward : OutLane O) (inward : InLane I) (joined : O → I → Type 0) where
  -- the text reports damage, which is in what workers left that worked over such lanes
  pub record IsDamageTextOver (links : LinkUseAt) (task : Task) (file : FileAt) (text : List ℕ) : Type 0 where
    pub tells_it : IsDamageText file text
    pub over : IsDamageOver outward inward joined file (looks_of task) links.tells tells_it.number tells_it.logged tells_it.other

  -- the lines with which the history of the run begins are the joined logs of workers that worked
  -- over such lanes
  pub record HasRunOver (links : LinkUseAt) (task : Task) (log : LogAt) (file : FileAt) (verdict : Verdict) (text : List ℕ) : Type 0 where
    pub run : HasRun links task log file verdict text
    pub logged : AreLoggedOver outward inward joined file (looks_of task) links.tells run.has.begun.lines

  -- of the file that the call holds the text reports such damage
  abbrev pub TellsDamage : CallAt → (text : List ℕ) → Type 0
  TellsDamage c text = (h : HoldsFile c) × IsDamageTextOver c.links h.task h.file text

  -- the file that the call holds was run so
  abbrev pub TellsRun : CallAt → Verdict → (text : List ℕ) → Type 0
  TellsRun c verdict text = (h : HoldsFile c) × HasRunOver c.links h.task h.log h.file verdict text

  -- such a text is written after what was written before
  pub record WritesDamage (c : CallAt) (before after : Option (List ℕ)) : Type 0 where
    pub text : List ℕ
    pub tells_it : TellsDamage c text
    pub written : after ≡ put_behind before text

  -- the status is the verdict of such a run, and what the task reports of it is written after what
  -- was written before
  pub record WritesRun (c : CallAt) (status : ℕ) (before after : Option (List ℕ)) : Type 0 where
    pub verdict : Verdict
    pub stands : status ≡ verdict_status verdict
    pub text : List ℕ
    pub tells_it : TellsRun c verdict text
    pub written : after ≡ put_behind before text
