use Rattle.std.proofs.Common.{◌≡◌, ◌+◌, ◌*◌, drop}
use Rattle.sj_lang.specs.Place.{done}
use Rattle.sj_lang.specs.PlaceSize.{place_size, choices_size}
use Rattle.sj_lang.specs.View.{place_of, choices_of, followed}
use Rattle.sj_table.specs.Nodes.{arm_nodes, node_count}
use Rattle.sj_seat.proofs.kinds.+room.Given as goal

-- the room left is what the items that are left leave too much
abbrev pub invariant-room_after_items-loop-item : goal.invariant-room_after_items-loop-item
invariant-room_after_items-loop-item l = l.left + node_count (place_of l.items) ≡ l.fn.room + node_count (place_of (drop l.item-index l.items))

abbrev pub invariant-room_after_arms-loop-arm : goal.invariant-room_after_arms-loop-arm
invariant-room_after_arms-loop-arm l = l.left + arm_nodes (choices_of l.arms) ≡ l.fn.room + arm_nodes (choices_of (drop l.arm-index l.arms))

abbrev pub decreases-room_after : goal.decreases-room_after
decreases-room_after l = 4 * place_size l.place.now + 3

abbrev pub decreases-room_after_items : goal.decreases-room_after_items
decreases-room_after_items l = 4 * place_size (place_of l.items.now) + 2

abbrev pub decreases-room_after_item : goal.decreases-room_after_item
decreases-room_after_item l = 4 * place_size (followed l.item.now done) + 1

abbrev pub decreases-room_after_choice : goal.decreases-room_after_choice
decreases-room_after_choice l = 4 * choices_size l.choice.now + 1

abbrev pub decreases-room_after_arms : goal.decreases-room_after_arms
decreases-room_after_arms l = 4 * choices_size (choices_of l.arms.now)
