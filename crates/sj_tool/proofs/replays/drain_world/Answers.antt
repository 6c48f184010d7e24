use Rattle.std.proofs.Common.{List, map, sym, subst}
use Rattle.sj_check.specs.Held.{file_in}
use Rattle.sj_command.specs.declared.tasks.Task.TheVariants as tasks
use Rattle.sj_core.specs.World.{history_of, kept_file, party_count, world_at}
use Rattle.sj_end.specs.Lines.{line_at}
use Rattle.sj_lang.specs.FileView.{file_of}
use Rattle.sj_rules.specs.Log.{LineAt}
use Rattle.sj_tool.specs.LogAt.{Spells, log_at}
use Rattle.sj_tool.specs.Replays.{IsRefusedBy}
use Rattle.sj_tool.specs.declared.replays.ReplayFault.{ReplayFault}
use Rattle.sj_tool.proofs.DrainedLemmas.{drained_has}
use Rattle.sj_tool.proofs.ReplayLemmas.{misfit_refused}
use Rattle.sj_tool.proofs.replays.drain_world.Goals as goal

pub returns-in-Err-clause-refused : goal.returns-in-Err-clause-refused
returns-in-Err-clause-refused c =
    let file = file_of (file_in c.args.accepted.now) in
    subst (λ (r : ReplayFault). IsRefusedBy file (log_at c.args.version c.args.log.now) r) (sym c.from.ensures)
    (misfit_refused file (log_at c.args.version c.args.log.now) (map line_at c.in_ok-lines.lines.items) c.in-Err.refusal c.in_ok-lines.ensures.spells c.in-Err.ensures.misfit)

pub returns-clause-has : goal.returns-clause-has
returns-clause-has c links l =
    let file = file_of (file_in c.args.accepted.now) in
    let first = c.in-Ok.world in
    let last = c.drain.new.self in
    let begins = c.in-Ok.ensures in
    let d = c.in_ok-drain.ensures in
    let spells = subst (λ (ls : List LineAt). Spells file (log_at c.args.version c.args.log.now) ls) (sym begins.history) c.in_ok-lines.ensures.spells in
    drained_has file (kept_file first) (kept_file last) begins.kept c.drain.ensures.kept (party_count first) (party_count last) (world_at first) (world_at last)
    (history_of first) d.drained.lines (history_of last) links (tasks.Replay l) (log_at c.args.version c.args.log.now) begins.parties c.drain.ensures.parties d.drained.listed begins.run (λ _. spells) (λ none. absurd (none tt)) (λ none. absurd (none tt)) c.drain.ensures.run d.drained.by d.quiet
