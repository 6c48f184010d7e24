-- What the code does for a task: words of private functions.
use Rattle.std.specs.Prelude.{◌≡◌, ℕ}
use Rattle.sj_lang.specs.Limits.{file_limit, source_limit}
use Rattle.sj_command.specs.declared.tasks.Task.{Task}
use Rattle.sj_command.specs.declared.tasks.Task.TheVariants as tasks
use Rattle.sj_tool.specs.declared.plans.Plan.{Plan}
use Rattle.sj_tool.specs.declared.plans.Plan.TheVariants as plans
use Rattle.sj_tool.specs.declared.plans.Play.{Play}
use Rattle.sj_tool.specs.declared.plans.Play.TheVariants as plays
use Rattle.sj_tool.specs.declared.plans.Running.{Running}
use Rattle.sj_tool.specs.Runs.{print_of}
use Rattle.sj_tool.specs.Tasks.{Reads, RunsParties, looks_of}

-- the task runs parties with so many looks, and prints so
abbrev pub RunsSo : Running → Task → Type 0
RunsSo run task = RunsParties task × (looks_of task ≡ run.looks) × (print_of task ≡ run.print)

-- the task does that with its file
abbrev pub DoesSo : Play → Task → Type 0
DoesSo plays.Check task = task ≡ tasks.Check
DoesSo plays.Show task = task ≡ tasks.Show
DoesSo plays.Forest task = task ≡ tasks.Forest
DoesSo plays.Sim task = task ≡ tasks.Sim
DoesSo plays.Forward task = task ≡ tasks.Forward
DoesSo (plays.Run run) task = RunsSo run task
DoesSo (plays.Replay prints) task = task ≡ tasks.Replay prints
DoesSo (plays.Talk n) task = task ≡ tasks.Talk n

-- the task prints the generated file, or does that with it, or reads a file and does that with it
abbrev pub IsPlan : Plan → Task → Type 0
IsPlan (plans.Make n) task = task ≡ tasks.Make n
IsPlan (plans.Made n play) task = (task ≡ tasks.Big n) × DoesSo play task
IsPlan (plans.Read play) task = Reads task × DoesSo play task

-- the most bytes of what is read for that
abbrev pub most_of : Play → ℕ
most_of (plays.Replay prints) = source_limit
most_of (plays.Talk n) = source_limit
most_of _ = file_limit
