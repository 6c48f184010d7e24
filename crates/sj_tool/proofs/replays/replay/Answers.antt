use Rattle.std.proofs.Common.{false, refl}
use Rattle.sj_check.specs.Held.{file_in}
use Rattle.sj_command.specs.declared.tasks.Task.TheVariants as tasks
use Rattle.sj_core.specs.World.{history_of, world_at}
use Rattle.sj_lang.specs.FileView.{file_of}
use Rattle.sj_tool.specs.LogAt.{log_at}
use Rattle.sj_tool.proofs.DrainedLemmas.{told_runs}
use Rattle.sj_tool.proofs.ReplayLemmas.{unused}
use Rattle.sj_tool.proofs.replays.replay.Goals as goal

pub tell-requires-clause-run : goal.tell-requires-clause-run
tell-requires-clause-run c = (c.in_ok-world.ensures.has unused false).run

pub tell-requires-clause-quiet : goal.tell-requires-clause-quiet
tell-requires-clause-quiet c = (c.in_ok-world.ensures.has unused false).quiet

pub returns-clause-ran : goal.returns-clause-ran
returns-clause-ran c links =
    let world = c.in_ok-world.world in
    let told = c.in_ok-answer.ensures in
    told_runs links (tasks.Replay c.args.prints) (log_at c.args.version c.args.log.now) (file_of (file_in c.args.accepted.now)) told.accepted (history_of world) (world_at world)
    (c.in_ok-world.ensures.has links c.args.prints) _ refl _ _ told.told
