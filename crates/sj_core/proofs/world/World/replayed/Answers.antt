use Rattle.std.proofs.Common.{◌≡◌, map, ◌∙◌}
use Rattle.sj_check.specs.Held.{file_in as held}
use Rattle.sj_end.specs.Lines.{line_at}
use Rattle.sj_lang.specs.FileView.{file_of}
use Rattle.sj_plain.specs.SharedFile.{without_words}
use Rattle.sj_core.specs.NodeWorld.{file_in, history_in, world_in}
use Rattle.sj_core.proofs.FirstLemmas.{history_same, misfit_kept}
use Rattle.sj_core.proofs.world.World.replayed.Goals as goal

pub returns-in-Ok-clause-ok : goal.returns-in-Ok-clause-ok
returns-in-Ok-clause-ok c =
    let node_world = c.in-Ok.node_world in
    let same : file_in node_world ≡ without_words (file_of (held c.args.accepted.now)) =
    c.in-Ok.ensures.file ∙ c.in_ok-node_world.ensures.file in
    history_same (file_of (held c.args.accepted.now)) (file_in node_world) (map line_at c.args.lines.items) (history_in node_world) (world_in node_world) same c.in-Ok.ensures.history c.in-Ok.ensures.reached.run

pub returns-in-Err-clause-misfit : goal.returns-in-Err-clause-misfit
returns-in-Err-clause-misfit c =
    misfit_kept (file_of (held c.args.accepted.now)) (file_in c.in_ok-node_world.node_world) (map line_at c.args.lines.items) c.in-Err.refusal c.in_ok-node_world.ensures.file c.in-Err.ensures.misfit
