use Rattle.std.proofs.Common.{◌≡◌, ◌+◌, ◌*◌, drop}
use Rattle.sj_lang.specs.Place.{done}
use Rattle.sj_lang.specs.PlaceSize.{place_size, carried_size, choices_size}
use Rattle.sj_lang.specs.View.{place_of, choices_of, followed, carried_of}
use Rattle.sj_acceptance.specs.LabelTests.{names_once, arms_name_once}
use Rattle.sj_check.proofs.uniqueness.+once.Given as goal

abbrev pub invariant-items_once-loop-item : goal.invariant-items_once-loop-item
invariant-items_once-loop-item l = names_once (place_of (drop l.item-index l.items)) ≡ names_once (place_of l.items)

abbrev pub invariant-arms_once-loop-arm : goal.invariant-arms_once-loop-arm
invariant-arms_once-loop-arm l = arms_name_once (choices_of (drop l.arm-index l.arms)) ≡ arms_name_once (choices_of l.arms)

abbrev pub decreases-names_once : goal.decreases-names_once
decreases-names_once l = 4 * place_size l.p.now + 3

abbrev pub decreases-items_once : goal.decreases-items_once
decreases-items_once l = 4 * place_size (place_of l.items.now) + 2

abbrev pub decreases-item_once : goal.decreases-item_once
decreases-item_once l = 4 * place_size (followed l.item.now done) + 1

abbrev pub decreases-kind_once : goal.decreases-kind_once
decreases-kind_once l = 4 * carried_size (carried_of l.kind.now)

abbrev pub decreases-choice_once : goal.decreases-choice_once
decreases-choice_once l = 4 * choices_size l.choice.now + 1

abbrev pub decreases-arms_once : goal.decreases-arms_once
decreases-arms_once l = 4 * choices_size (choices_of l.arms.now)
