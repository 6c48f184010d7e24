use Rattle.std.proofs.Common.{◌≡◌, Some, length, arith, refl}
use Rattle.std.specs.Prelude.{slice_get}
use Rattle.std.proofs.lemmas.Option.{slice_get_read}
use Rattle.sj_lane.specs.Rings.{Each2, InKept, OutsKept, LanesKept}
use Rattle.sj_lane.proofs.EachLemmas.{each2_refl, each2_length}
use Rattle.sj_lane.proofs.SettleLemmas.{kept_itself, column_joined, column_back, fed_more}
use Rattle.std.proofs.Math.ListN.{set, length-set}
use Rattle.sj_lane.specs.declared.lane.Lanes.{Lanes}
use Rattle.sj_lane.specs.declared.ends.RingOut.{RingOut}
use Rattle.sj_lane.specs.declared.ends.RingIn.{RingIn}
use Rattle.sj_lane.proofs.columns.settle.Goals as goal

pub loop-to-init : goal.loop-to-init
loop-to-init c = (each2_refl LanesKept kept_itself c.args.lanes.now.items, λ p q o i lt. absurd (omega arith))

pub index_mut-requires : goal.index_mut-requires
index_mut-requires c = omega (arith, each2_length LanesKept c.args.lanes.now.items c.loop-to.lanes.items c.loop-to.invariant.0)

pub settle_column-requires : goal.settle_column-requires
settle_column-requires c =
    let at : slice_get c.loop-to.lanes.items c.loop-to.to ≡ Some c.index_mut.result.now = slice_get_read c.loop-to.lanes.items (length c.loop-to.lanes.items) c.loop-to.to c.index_mut.result.now refl (omega (arith, each2_length LanesKept c.args.lanes.now.items c.loop-to.lanes.items c.loop-to.invariant.0)) c.index_mut.ensures.value in
    rw c.replace-column.ensures.value (column_joined c.args.lanes.now.items c.loop-to.lanes.items c.loop-to.to c.index_mut.result.now (record { outs = c.index_mut.result.now.outs; ins = c.replace-column.new.dest }) c.requires c.loop-to.invariant.0 at refl)

pub index_mut-requires-in-loop-to : goal.index_mut-requires-in-loop-to
index_mut-requires-in-loop-to c =
    let n = each2_length LanesKept c.args.lanes.now.items c.loop-to.lanes.items c.loop-to.invariant.0 in
    let m = each2_length OutsKept (set c.loop-to.lanes.items c.loop-to.to (record { outs = c.index_mut.result.now.outs; ins = c.replace-column.new.dest })) c.settle_column.new.lanes.items c.settle_column.ensures.lanes in
    let k = length-set {A = Lanes RingOut RingIn} c.loop-to.lanes.items c.loop-to.to (record { outs = c.index_mut.result.now.outs; ins = c.replace-column.new.dest }) in
    omega arith

pub loop-to-preserved : goal.loop-to-preserved
loop-to-preserved c =
    let at : slice_get c.loop-to.lanes.items c.loop-to.to ≡ Some c.index_mut.result.now = slice_get_read c.loop-to.lanes.items (length c.loop-to.lanes.items) c.loop-to.to c.index_mut.result.now refl (omega (arith, each2_length LanesKept c.args.lanes.now.items c.loop-to.lanes.items c.loop-to.invariant.0)) c.index_mut.ensures.value in
    let n = each2_length LanesKept c.args.lanes.now.items c.loop-to.lanes.items c.loop-to.invariant.0 in
    let m = each2_length OutsKept (set c.loop-to.lanes.items c.loop-to.to (record { outs = c.index_mut.result.now.outs; ins = c.replace-column.new.dest })) c.settle_column.new.lanes.items c.settle_column.ensures.lanes in
    let k = length-set {A = Lanes RingOut RingIn} c.loop-to.lanes.items c.loop-to.to (record { outs = c.index_mut.result.now.outs; ins = c.replace-column.new.dest }) in
    let bt : slice_get c.settle_column.new.lanes.items c.loop-to.to ≡ Some c.index_mut-in-loop-to.result.now = slice_get_read c.settle_column.new.lanes.items (length c.settle_column.new.lanes.items) c.loop-to.to c.index_mut-in-loop-to.result.now refl (omega arith) c.index_mut-in-loop-to.ensures.value in
    let col : Each2 InKept c.index_mut.result.now.ins.items c.settle_column.new.column.items = rw c.replace-column.ensures.value at c.settle_column.ensures.column in
    let fed = rw c.replace-column.ensures.value at c.settle_column.ensures.fed in (
      column_back c.args.lanes.now.items c.loop-to.lanes.items c.settle_column.new.lanes.items c.loop-to.to c.index_mut.result.now (record { outs = c.index_mut.result.now.outs; ins = c.replace-column.new.dest }) c.index_mut-in-loop-to.result.now _ c.loop-to.invariant.0 at c.settle_column.ensures.lanes bt refl col refl,
      fed_more c.args.lanes.now.items c.loop-to.lanes.items c.loop-to.to c.index_mut.result.now (record { outs = c.index_mut.result.now.outs; ins = c.replace-column.new.dest }) c.loop-to.invariant.0 at refl fed c.loop-to.invariant.1,
    )
