use Rattle.std.proofs.Common.{List, slice_get, subst, sym}
use Rattle.sj_forward.specs.declared.slot.Slot.{Slot}
use Rattle.sj_forward.specs.Ends.{SideStays}
use Rattle.sj_forward.proofs.RoomLemmas.{side_more, sides_both}
use Rattle.sj_forward.proofs.ends.make_side.Goals as goal

pub loop-alloc-preserved : goal.loop-alloc-preserved
loop-alloc-preserved c = λ k.
    sides_both _ (slice_get c.loop-alloc.row.items k) _ (c.loop-alloc.invariant k)
    (subst (λ (xs : List Slot). SideStays (slice_get c.loop-alloc.row.items k) (slice_get xs k)) (sym c.in_ok-push.ensures.items)
    (side_more c.loop-alloc.row.items c.new.result k c.new.ensures.used c.new.ensures.records))
