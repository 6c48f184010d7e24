use Rattle.std.proofs.Common.{None, false, refl}
use Rattle.sj_check.specs.Held.{file_in}
use Rattle.sj_command.specs.declared.tasks.Task.TheVariants as tasks
use Rattle.sj_core.specs.World.{history_of, world_at}
use Rattle.sj_lang.specs.FileView.{file_of}
use Rattle.sj_tool.specs.LogAt.{no_log}
use Rattle.sj_tool.proofs.DrainedLemmas.{told_runs}
use Rattle.sj_tool.proofs.runs.run_file.Goals as goal

pub tell-requires-clause-run : goal.tell-requires-clause-run
tell-requires-clause-run g c = (c.in_ok-world.ensures.over (tasks.Run false c.args.run.looks None) no_log tt refl).has.run

pub tell-requires-clause-quiet : goal.tell-requires-clause-quiet
tell-requires-clause-quiet g c = (c.in_ok-world.ensures.over (tasks.Run false c.args.run.looks None) no_log tt refl).has.quiet

pub returns-clause-ran : goal.returns-clause-ran
returns-clause-ran g c task log so =
    let world = c.in_ok-world.world in
    let told = c.in_ok-answer.ensures in
    told_runs _ task log (file_of (file_in c.args.accepted.now)) told.accepted (history_of world) (world_at world) (c.in_ok-world.ensures.over task log so.0 so.1).has c.args.run.print so.2 _ _ told.told

pub returns-clause-over : goal.returns-clause-over
returns-clause-over g c task log so =
    let world = c.in_ok-world.world in
    let told = c.in_ok-answer.ensures in
    let over = c.in_ok-world.ensures.over task log so.0 so.1 in
    record {
      run = told_runs _ task log (file_of (file_in c.args.accepted.now)) told.accepted (history_of world) (world_at world) over.has c.args.run.print so.2 _ _ told.told;
      logged = over.logged;
    }
