use Rattle.std.proofs.Common.{◌≡◌, ◌+◌, ◌*◌, ◌≤◌, length, drop, take}
use Rattle.sj_lang.specs.Place.{done}
use Rattle.sj_lang.specs.PlaceSize.{place_size, choices_size}
use Rattle.sj_lang.specs.View.{place_of, choices_of, followed}
use Rattle.sj_table.specs.Nodes.{Grown, arm_nodes, node_count}
use Rattle.sj_table.specs.Table.{AreEntered, Leads, at_node, places_of}
use Rattle.sj_table.proofs.builders.+build.Given as goal

abbrev pub decreases-add_place : goal.decreases-add_place
decreases-add_place l = 4 * place_size l.place.now + 3

abbrev pub decreases-add_item : goal.decreases-add_item
decreases-add_item l = 4 * place_size (followed l.item.now done) + 1

abbrev pub decreases-add_loop : goal.decreases-add_loop
decreases-add_loop l = 4 * place_size l.body.now + 4

abbrev pub decreases-add_arms : goal.decreases-add_arms
decreases-add_arms l = 4 * choices_size l.choice.now

-- the nodes of the items from that one on are there
abbrev pub invariant-add_place-loop-at : goal.invariant-add_place-loop-at
invariant-add_place-loop-at l = record {
  within : l.at ≤ length l.place-inside.items.items;
  leads : Leads (places_of l.rows.items) l.node (place_of (drop l.at l.place-inside.items.items)) (at_node (places_of l.fn.rows.items) l.next);
  grown : Grown l.fn.rows.items l.rows.items;
  count : length l.rows.items ≡ length l.fn.rows.items + node_count (place_of (drop l.at l.place-inside.items.items));
}

abbrev pub decreases-add_place-loop-at : goal.decreases-add_place-loop-at
decreases-add_place-loop-at l = l.at

-- the nodes of the first arms are there
abbrev pub invariant-add_arms-loop-arm : goal.invariant-add_arms-loop-arm
invariant-add_arms-loop-arm l = record {
  entered : AreEntered (places_of l.rows.items) (choices_of (take l.arm-index l.arm-items)) (at_node (places_of l.fn.rows.items) l.next) l.inside.items;
  long : length l.inside.items ≡ l.arm-index;
  grown : Grown l.fn.rows.items l.rows.items;
  count : length l.rows.items ≡ length l.fn.rows.items + arm_nodes (choices_of (take l.arm-index l.arm-items));
}
