use Rattle.std.proofs.Common.{length, max, option_map, refl, ap, sym, ◌∙◌}
use Rattle.std.proofs.lemmas.Option.{slice_get_read}
use Rattle.sj_rules.specs.History.{due}
use Rattle.sj_rules.specs.Party.{play_of}
use Rattle.sj_core.specs.NodeWorld.{file_in, world_in}
use Rattle.sj_core.specs.Views.{event_at, line_with}
use Rattle.sj_core.proofs.node_world.NodeWorld.due.Goals as goal
use Rattle.sj_core.proofs.DueLemmas.{act_due}
use Rattle.sj_core.proofs.LawLemmas.{low_node}

pub due-requires : goal.due-requires
due-requires c =
    let nodes = c.args.self.now.nodes.items in
    low_node c.args.self.now c.requires.led c.args.party c.index.result.now (slice_get_read nodes (length nodes) c.args.party c.index.result.now refl c.requires.there c.index.ensures)

pub returns-in-Act : goal.returns-in-Act
returns-in-Act c =
    let nodes = c.args.self.now.nodes.items in
    (λ i. due (play_of (file_in c.args.self.now)) max (world_in c.args.self.now) c.args.party (event_at (c.in-Act.is i)))
    ∙ act_due c.args.self.now c.requires.led c.args.party c.index.result.now (slice_get_read nodes (length nodes) c.args.party c.index.result.now refl c.requires.there c.index.ensures)
    ∙ ap (option_map (line_with c.args.party)) (sym c.due.ensures)
