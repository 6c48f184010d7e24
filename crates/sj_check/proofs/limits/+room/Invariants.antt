use Rattle.std.proofs.Common.{◌≡◌, ◌+◌, ◌*◌, drop}
use Rattle.sj_lang.specs.Place.{done}
use Rattle.sj_lang.specs.PlaceSize.{place_size, carried_size, choices_size}
use Rattle.sj_lang.specs.ItemCount.{item_count, arm_items}
use Rattle.sj_lang.specs.View.{place_of, choices_of, followed, carried_of}
use Rattle.sj_check.proofs.limits.+room.Given as goal

-- the room left is what the items that are left leave too much
abbrev pub invariant-room_behind_items-loop-item : goal.invariant-room_behind_items-loop-item
invariant-room_behind_items-loop-item l = l.left + item_count (place_of l.items) ≡ l.fn.room + item_count (place_of (drop l.item-index l.items))

abbrev pub invariant-room_behind_arms-loop-arm : goal.invariant-room_behind_arms-loop-arm
invariant-room_behind_arms-loop-arm l = l.left + arm_items (choices_of l.arms) ≡ l.fn.room + arm_items (choices_of (drop l.arm-index l.arms))

abbrev pub decreases-room_behind : goal.decreases-room_behind
decreases-room_behind l = 4 * place_size l.p.now + 3

abbrev pub decreases-room_behind_items : goal.decreases-room_behind_items
decreases-room_behind_items l = 4 * place_size (place_of l.items.now) + 2

abbrev pub decreases-room_behind_item : goal.decreases-room_behind_item
decreases-room_behind_item l = 4 * place_size (followed l.item.now done) + 1

abbrev pub decreases-room_behind_kind : goal.decreases-room_behind_kind
decreases-room_behind_kind l = 4 * carried_size (carried_of l.kind.now)

abbrev pub decreases-room_behind_choice : goal.decreases-room_behind_choice
decreases-room_behind_choice l = 4 * choices_size l.choice.now + 1

abbrev pub decreases-room_behind_arms : goal.decreases-room_behind_arms
decreases-room_behind_arms l = 4 * choices_size (choices_of l.arms.now)
