use Rattle.std.proofs.Common.{◌+◌, ◌*◌}
use Rattle.sj_lang.specs.Place.{done}
use Rattle.sj_lang.specs.PlaceSize.{place_size, choices_size}
use Rattle.sj_lang.specs.View.{choices_of, followed}
use Rattle.sj_seat.specs.Kinds.{AreNamedAlike}
use Rattle.sj_seat.proofs.kinds.+kinds.Given as goal

abbrev pub invariant-add_kinds-loop-item : goal.invariant-add_kinds-loop-item
invariant-add_kinds-loop-item l = AreNamedAlike l.fn.defs.items l.defs.items

abbrev pub invariant-add_in_arms-loop-arm : goal.invariant-add_in_arms-loop-arm
invariant-add_in_arms-loop-arm l = AreNamedAlike l.fn.defs.items l.defs.items

abbrev pub decreases-add_kinds : goal.decreases-add_kinds
decreases-add_kinds l = 4 * place_size l.place.now + 3

abbrev pub decreases-add_inside : goal.decreases-add_inside
decreases-add_inside l = 4 * place_size (followed l.item.now done) + 1

abbrev pub decreases-add_in_choice : goal.decreases-add_in_choice
decreases-add_in_choice l = 4 * choices_size l.choice.now + 1

abbrev pub decreases-add_in_arms : goal.decreases-add_in_arms
decreases-add_in_arms l = 4 * choices_size (choices_of l.arms.now)
