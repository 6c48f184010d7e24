use Rattle.std.proofs.Common.{◌≡◌, ◌<◌, None, length, refl, sym, ◌∙◌, arith}
use Rattle.std.proofs.lemmas.Grind.{common_steps}
use Rattle.std.proofs.lemmas.Option.{slice_get_read}
use Rattle.sj_end.specs.Views.{frame_at}
use Rattle.sj_core.proofs.node_world.NodeWorld.is_idle.Goals as goal
use Rattle.sj_core.proofs.LawLemmas.{low_node}
use Rattle.sj_core.proofs.QuietLemmas.{due_of_still, empty_as, filled_as, lane_next, none_so, still_of, where_none}

pub due-requires : goal.due-requires
due-requires c =
    let nodes = c.args.self.now.nodes.items in
    low_node c.args.self.now c.requires.led c.args.party c.index.result.now (slice_get_read nodes (length nodes) c.args.party c.index.result.now refl c.requires.there c.index.ensures)

pub returns-then-can_act : goal.returns-then-can_act
returns-then-can_act c =
    let nodes = c.args.self.now.nodes.items in
    let there = slice_get_read nodes (length nodes) c.args.party c.index.result.now refl c.requires.there c.index.ensures in (
      λ t. absurd (cc t),
      λ idle. let none : c.due.result ≡ None = c.due.ensures ∙ due_of_still c.args.self.now c.requires.led c.args.party c.index.result.now there idle.still in absurd (grind (arith, common_steps, none)),
    )

pub returns-then-is_some : goal.returns-then-is_some
returns-then-is_some c =
    let nodes = c.args.self.now.nodes.items in
    let giver = c.index-in-loop-from.result.now in
    let lt : c.loop-from.from < length nodes = omega (arith, c.loop-from-test.true, c.len-from-end.ensures) in
    let origin = slice_get_read nodes (length nodes) c.loop-from.from giver refl lt c.index-in-loop-from.ensures in (
      λ t. absurd (cc t),
      λ idle.
          let none : c.front.result ≡ None =
          none_so c.front.result _ c.front.ensures.some (λ f h. filled_as c.args.self.now c.loop-from.from giver origin c.args.party (frame_at f.now) h.0 h.1 (idle.empty c.loop-from.from lt)) in
          absurd (grind (arith, common_steps, none)),
    )

pub loop-from-preserved : goal.loop-from-preserved
loop-from-preserved c =
    let nodes = c.args.self.now.nodes.items in
    let giver = c.index-in-loop-from.result.now in
    let lt : c.loop-from.from < length nodes = omega (arith, c.loop-from-test.true, c.len-from-end.ensures) in
    let origin = slice_get_read nodes (length nodes) c.loop-from.from giver refl lt c.index-in-loop-from.ensures in
    let none : c.front.result ≡ None = grind (arith, common_steps) in
    lane_next c.args.self.now c.args.party c.loop-from.from c.loop-from.invariant
    (empty_as c.args.self.now c.loop-from.from giver origin c.args.party (where_none c.front.result _ c.front.ensures.none none))

pub returns : goal.returns
returns c =
    let nodes = c.args.self.now.nodes.items in
    let there = slice_get_read nodes (length nodes) c.args.party c.index.result.now refl c.requires.there c.index.ensures in
    let none : c.due.result ≡ None = grind (arith, common_steps) in (
      λ t. record {
        empty = λ q lt. c.loop-from.invariant q (omega (arith, lt, c.loop-from-test.false, c.len-from-end.ensures));
        still = still_of c.args.self.now c.requires.led c.args.party c.index.result.now there (sym c.due.ensures ∙ none);
      },
      λ t. refl,
    )
