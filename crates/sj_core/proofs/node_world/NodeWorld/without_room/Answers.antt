use Rattle.std.proofs.Common.{option_map, refl, ap, ◌∙◌}
use Rattle.sj_core.specs.Views.{event_at, line_with}
use Rattle.sj_core.proofs.node_world.NodeWorld.without_room.Goals as goal
use Rattle.sj_core.proofs.DueLemmas.{none_due_so}

pub returns-in-None : goal.returns-in-None
returns-in-None c =
    (λ t. none_due_so c.args.self.now c.args.party (event_at c.args.event) (c.due.ensures ∙ ap (option_map (line_with c.args.party)) c.in-None.is), λ t. refl)
