use Rattle.std.proofs.Common.{◌≡◌, ◌+◌, ◌-◌, ◌<◌, [], ◌∷◌, ℕ, List, length, drop, take, ap, sym, ◌∙◌, subst, arith, length-append}
use Rattle.std.proofs.lemmas.Grind.{common_steps}
use Rattle.sj_lang.specs.declared.proto.Item.{Item}
use Rattle.sj_lang.specs.After.{followed_by}
use Rattle.sj_lang.proofs.WithinLemmas.{arm_within, item_within}
use Rattle.sj_lang.specs.Place.{Place, done}
use Rattle.sj_lang.specs.View.{choices_of, followed, place_of}
use Rattle.sj_table.specs.declared.leads.Row.{Row}
use Rattle.sj_table.specs.Nodes.{Grown, IsLoop, Turned, arm_nodes, node_count, limit_of_nodes}
use Rattle.sj_table.specs.Table.{AreEntered, Leads, at_node, places_of}
use Rattle.sj_table.proofs.BuildLemmas.{arms_entered, arms_next, choice_nodes, fewer_first, fewer_left, followed-followed_by, loop_nodes, node_count-followed, nodes_next, none_left, place_before}
use Rattle.sj_table.proofs.GrownLemmas.{arms_more, grown_back, grown_kept, grown_length, grown_none, grown_node, grown_twice, length-places_of}
use Rattle.sj_table.proofs.LoopLemmas.{loop_grown, loop_place, turned_length}
use Rattle.sj_table.proofs.builders.+build.Goals as goal

pub add_arms-loop-arm-preserved : goal.add_arms-loop-arm-preserved
add_arms-loop-arm-preserved t c =
    let h = c.loop-arm.invariant in
    let new = c.add_place.new.rows.items in
    let rest = grown_node c.args.rows.now.items c.loop-arm.rows.items c.args.next h.grown c.requires.next in
    let here : Leads (places_of new) c.in_ok-node.node c.arm-item.result.rest (at_node (places_of c.args.rows.now.items) c.args.next) =
    subst (λ (r : Place). Leads (places_of new) c.in_ok-node.node c.arm-item.result.rest r) rest c.in_ok-node.ensures.leads in
    let arms = c.deref-arm-items.result.now in
    record {
      entered = subst (λ (ns : List ℕ). AreEntered (places_of new) (choices_of (take (c.loop-arm.arm-index + 1) arms)) (at_node (places_of c.args.rows.now.items) c.args.next) ns) (sym c.in_ok-push.ensures.items)
          (arms_next (places_of new) arms c.loop-arm.arm-index c.arm-item.result _ c.loop-arm.inside.items c.in_ok-node.node c.loop-arm-test.true h.long c.arm-item.is
          (arms_more (places_of c.loop-arm.rows.items) (places_of new) _ _ c.loop-arm.inside.items (grown_kept c.loop-arm.rows.items new c.in_ok-node.ensures.grown) h.entered) here);
      long = grind (arith, common_steps);
      grown = grown_twice _ _ _ h.grown c.in_ok-node.ensures.grown;
      count = omega (arith, h.count, c.in_ok-node.ensures.count, nodes_next arms c.loop-arm.arm-index c.arm-item.result c.loop-arm-test.true c.arm-item.is);
    }

pub add_arms-add_place-requires : goal.add_arms-add_place-requires
add_arms-add_place-requires t c =
    let g = c.loop-arm.invariant.grown in
    let arms : choices_of c.deref-arm-items.result.now ≡ c.args.choice.now = ap choices_of c.deref-arm-items.ensures.value ∙ c.choice.view_is in
    let all : arm_nodes (choices_of c.deref-arm-items.result.now) ≡ arm_nodes c.args.choice.now = ap arm_nodes arms in
    let few : length c.loop-arm.rows.items + node_count c.arm-item.result.rest < limit_of_nodes =
    omega (arith, all, c.loop-arm.invariant.count, c.requires.few, fewer_first c.deref-arm-items.result.now (c.loop-arm.arm-index + 1), nodes_next c.deref-arm-items.result.now c.loop-arm.arm-index c.arm-item.result c.loop-arm-test.true c.arm-item.is) in (
      grind (arith, common_steps, arm_within),
      (grown_back c.args.rows.now.items c.loop-arm.rows.items g c.requires.back, (omega (arith, grown_length c.args.rows.now.items c.loop-arm.rows.items g, c.requires.next), few)),
    )

pub add_place-loop-at-init : goal.add_place-loop-at-init
add_place-loop-at-init t c =
    let items : List Item = c.place.inside.items.items in
    let len : c.len-at.result ≡ length items = omega (arith, c.len-at.ensures, c.place.inside.items.ok.0) in
    let end : place_of (drop c.len-at.result items) ≡ done = ap (λ (n : ℕ). place_of (drop n items)) len ∙ none_left items in
    let none : node_count (place_of (drop c.len-at.result items)) ≡ 0 = ap node_count end in
    record {
      within = omega (arith, len);
      leads = (omega (arith, length-places_of c.args.rows.now.items, c.requires.next), sym (ap (λ (p : Place). followed_by p (at_node (places_of c.args.rows.now.items) c.args.next)) end));
      grown = grown_none c.args.rows.now.items;
      count = omega (arith, none);
    }

pub add_place-add_item-requires : goal.add_place-add_item-requires
add_place-add_item-requires t c =
    let h = c.loop-at.invariant in
    let items : List Item = c.place.inside.items.items in
    let before : place_of (drop (c.loop-at.at - 1) items) ≡ followed c.index.result.now (place_of (drop c.loop-at.at items)) =
    place_before items c.loop-at.at c.index.result.now c.loop-at-test.true h.within c.index.ensures in
    let nodes : node_count (place_of (drop (c.loop-at.at - 1) items)) ≡ node_count (followed c.index.result.now done) + node_count (place_of (drop c.loop-at.at items)) =
    ap node_count before ∙ node_count-followed c.index.result.now (place_of (drop c.loop-at.at items)) in
    let all : node_count (place_of items) ≡ node_count c.args.place.now = ap node_count c.place.view_is in (
      grind (arith, common_steps, item_within),
      (
        grown_back c.args.rows.now.items c.loop-at.rows.items h.grown c.requires.back,
        (
          omega (arith, length-places_of c.loop-at.rows.items, h.leads.0),
          omega (arith, nodes, all, h.count, c.requires.few, fewer_left items (c.loop-at.at - 1)),
        ),
      ),
    )

pub add_place-loop-at-preserved : goal.add_place-loop-at-preserved
add_place-loop-at-preserved t c =
    let h = c.loop-at.invariant in
    let items : List Item = c.place.inside.items.items in
    let i : Item = c.index.result.now in
    let was = c.args.rows.now.items in
    let rest : Place = at_node (places_of c.args.rows.now.items) c.args.next in
    let new = c.add_item.new.rows.items in
    let before : place_of (drop (c.loop-at.at - 1) items) ≡ followed i (place_of (drop c.loop-at.at items)) =
    place_before items c.loop-at.at i c.loop-at-test.true h.within c.index.ensures in
    let nodes : node_count (place_of (drop (c.loop-at.at - 1) items)) ≡ node_count (followed i done) + node_count (place_of (drop c.loop-at.at items)) =
    ap node_count before ∙ node_count-followed i (place_of (drop c.loop-at.at items)) in
    record {
      within = omega (arith, h.within);
      leads = (
        omega (arith, length-places_of new, c.in_ok-node.ensures.within),
        c.in_ok-node.ensures.leads ∙ ap (followed i) h.leads.1 ∙ sym (followed-followed_by i (place_of (drop c.loop-at.at items)) rest) ∙ sym (ap (λ (p : Place). followed_by p rest) before),
      );
      grown = grown_twice _ _ _ h.grown c.in_ok-node.ensures.grown;
      count = omega (arith, nodes, h.count, c.in_ok-node.ensures.count);
    }

pub add_item-add_node-requires-in-Select-clause-entered : goal.add_item-add_node-requires-in-Select-clause-entered
add_item-add_node-requires-in-Select-clause-entered t c =
    let new = c.add_arms.new.rows.items in
    let rest = grown_node c.args.rows.now.items new c.args.next c.in_ok-inside-in-Select.ensures.grown c.requires.next in
    arms_entered (places_of new) c.in_ok-copy-in-Select.copy c.args.item.now c.in-Select.arms (at_node (places_of c.args.rows.now.items) c.args.next) (at_node (places_of new) c.args.next) c.in_ok-inside-in-Select.inside.items
    c.in_ok-copy-in-Select.ensures c.in-Select.is rest c.in_ok-inside-in-Select.ensures.entered

pub add_item-returns-in_ok-node-in-Select : goal.add_item-returns-in_ok-node-in-Select
add_item-returns-in_ok-node-in-Select t c =
    let was = c.args.rows.now.items in
    let mid = c.add_arms.new.rows.items in
    let new = c.add_node-in-Select.new.rows.items in
    let item : Item = c.args.item.now in
    let rest : at_node (places_of mid) c.args.next ≡ at_node (places_of was) c.args.next =
    grown_node was mid c.args.next c.in_ok-inside-in-Select.ensures.grown c.requires.next in
    let one = c.in_ok-node-in-Select.ensures in
    record {
      within = one.within;
      leads = one.leads ∙ (λ i. followed (c.in_ok-copy-in-Select.ensures i) (rest i));
      grown = grown_twice was mid new c.in_ok-inside-in-Select.ensures.grown one.grown;
      count = omega (arith, one.count, c.in_ok-inside-in-Select.ensures.count, choice_nodes item c.in-Select.arms c.in-Select.is);
    }

pub add_loop-returns : goal.add_loop-returns
add_loop-returns t c =
    let s : Row = record { item = c.in_ok-copy.copy; next = c.args.next; inside = c.new.result } in
    let was : List Row = c.args.rows.now.items in
    let mid : List Row = c.add_row.new.rows.items in
    let body : List Row = c.add_place.new.rows.items in
    let new : List Row = c.turn.new.rows.items in
    let here : c.in_ok-here.here ≡ length was + 1 = c.in_ok-here.ensures.node in
    let loops : IsLoop c.in_ok-copy.copy c.args.body.now = subst (λ (i : Item). IsLoop i c.args.body.now) (sym c.in_ok-copy.ensures) c.requires.loops in
    let leads : Leads (places_of body) c.in_ok-first.first c.args.body.now (at_node (places_of mid) (length was + 1)) =
    subst (λ (n : ℕ). Leads (places_of body) c.in_ok-first.first c.args.body.now (at_node (places_of mid) n)) here c.in_ok-first.ensures.leads in
    let turned : Turned (length was) c.in_ok-first.first body new = c.in_ok-turn.ensures (length was) (sym here) in
    let place : at_node (places_of new) (length was + 1) ≡ followed c.in_ok-copy.copy (at_node (places_of was) c.args.next) =
    loop_place was mid body new s c.args.body.now c.in_ok-first.first c.in_ok-here.ensures.pushed c.new.ensures.items c.requires.next loops c.in_ok-first.ensures.grown leads turned in
    let grown : Grown was new =
    loop_grown was mid body new s c.args.body.now c.in_ok-first.first c.in_ok-here.ensures.pushed c.new.ensures.items c.requires.next loops c.in_ok-first.ensures.grown leads turned in
    let longer : length mid ≡ length was + 1 = ap length c.in_ok-here.ensures.pushed ∙ length-append was (s ∷ []) in
    let same : length new ≡ length body = turned_length (length was) c.in_ok-first.first body new turned in
    record {
      within = omega (arith, here, same, longer, c.in_ok-first.ensures.count);
      leads = ap (at_node (places_of new)) here ∙ place ∙ ap (λ (i : Item). followed i (at_node (places_of was) c.args.next)) c.in_ok-copy.ensures;
      grown = grown;
      count = omega (arith, same, longer, c.in_ok-first.ensures.count, loop_nodes c.args.item.now c.args.body.now c.requires.loops);
    }
