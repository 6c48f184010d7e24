-- What tasks of one kind are besides.
use Rattle.std.proofs.Common.{◌≡◌, ℕ, List, ap, refl, sym}
use Rattle.sj_lang.specs.FileAt.{FileAt}
use Rattle.sj_lang.specs.Limits.{file_limit}
use Rattle.sj_command.specs.declared.tasks.Task.{Task}
use Rattle.sj_command.specs.declared.tasks.Task.TheVariants as tasks
use Rattle.sj_semantics.specs.declared.Verdict.{Verdict}
use Rattle.sj_tool.specs.declared.plans.Play.{Play}
use Rattle.sj_tool.specs.declared.plans.Play.TheVariants as plays
use Rattle.sj_tool.specs.LogAt.{LogAt}
use Rattle.sj_tool.specs.Calls.{LinkUseAt}
use Rattle.sj_tool.specs.Plans.{DoesSo, most_of}
use Rattle.sj_tool.specs.Tasks.{HasEvents, RunsParties, limit_of}
use Rattle.sj_tool.specs.Runs.{HasRun, Plays}

pub run_has_events : (task : Task) → RunsParties task → HasEvents task
run_has_events (tasks.Run l looks workers) h = tt
run_has_events (tasks.Big n) h = tt
run_has_events task h = absurd h

runs_few : (task : Task) → RunsParties task → file_limit ≡ limit_of task
runs_few (tasks.Replay l) h = absurd h
runs_few (tasks.Talk n) h = absurd h
runs_few task h = refl

-- a task that goes by a history plays the file so
pub run_plays : (links : LinkUseAt) (task : Task) (log : LogAt) (file : FileAt) (v : Verdict) (text : List ℕ) → HasEvents task → HasRun links task log file v text → Plays links task log file v text
run_plays links (tasks.Run l looks workers) log file v text h x = (tt, x)
run_plays links (tasks.Replay l) log file v text h x = (tt, x)
run_plays links (tasks.Big n) log file v text h x = (tt, x)
run_plays links task log file v text h x = absurd h

-- so many bytes are read for a task for which that is done
pub most_is : (play : Play) (task : Task) → DoesSo play task → most_of play ≡ limit_of task
most_is (plays.Run run) task so = runs_few task so.0
most_is play task so = sym (ap limit_of so)
