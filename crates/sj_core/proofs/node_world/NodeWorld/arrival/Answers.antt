use Rattle.std.proofs.Common.{◌≡◌, ◌+◌, max, length, Some, refl, sym, ◌∙◌, arith}
use Rattle.std.proofs.lemmas.Grind.{common_steps}
use Rattle.std.proofs.lemmas.Option.{slice_get_read}
use Rattle.sj_end.specs.Views.{frame_at}
use Rattle.sj_end.specs.declared.note.Event.TheVariants as events
use Rattle.sj_core.specs.Views.{line_with}
use Rattle.sj_core.proofs.node_world.NodeWorld.arrival.Goals as goal
use Rattle.sj_core.proofs.DueLemmas.{front_due, low_arrival}
use Rattle.sj_core.proofs.LawLemmas.{low_node}

pub overflow_add-result : goal.overflow_add-result
overflow_add-result c =
    let nodes = c.args.self.now.nodes.items in
    let giver = c.index.result.now in
    let node = c.index-node.result.now in
    let origin = slice_get_read nodes (length nodes) c.args.from giver refl c.requires.origin c.index.ensures in
    let there = slice_get_read nodes (length nodes) c.args.party node refl c.requires.there c.index-node.ensures in
    let low = low_node c.args.self.now c.requires.led c.args.party node there in
    let front = low_arrival c.args.self.now c.requires.led c.args.party c.args.from giver origin (frame_at c.in-Some.frame.now) c.in-Some.ensures.some.0 c.in-Some.ensures.some.1 in
    grind (arith, common_steps, low, front, c.clock.ensures, c.max.ensures)

pub returns : goal.returns
returns c =
    let nodes = c.args.self.now.nodes.items in
    let giver = c.index.result.now in
    let node = c.index-node.result.now in
    let origin = slice_get_read nodes (length nodes) c.args.from giver refl c.requires.origin c.index.ensures in
    let there = slice_get_read nodes (length nodes) c.args.party node refl c.requires.there c.index-node.ensures in
    let clock : max node.clock c.in-Some.frame.now.clock ≡ c.max.result = grind (arith, common_steps, c.clock.ensures, c.max.ensures) in
    front_due c.args.self.now c.requires.led c.args.party node there c.args.from giver origin (frame_at c.in-Some.frame.now) c.in-Some.ensures.some.0 c.in-Some.ensures.some.1
    ∙ (λ i. Some (line_with c.args.party (record { clock = clock i + 1; event = events.Deliver c.args.from; note = sym c.note_of.ensures i })))
