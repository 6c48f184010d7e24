use Rattle.std.proofs.Common.{rules, ◌≡◌, ◌≤◌, Some, length, arith, refl}
use Rattle.std.specs.Prelude.{slice_get}
use Rattle.std.proofs.lemmas.Option.{slice_get_read}
use Rattle.sj_lane.specs.Rings.{OutKept, InKept, OutsKept}
use Rattle.sj_lane.proofs.EachLemmas.{each2_refl, each2_length, each2_put}
use Rattle.sj_lane.proofs.ColumnLemmas.{out_itself, in_itself, joined_now, column_step, column_no_in, column_no_out}
use Rattle.sj_lane.proofs.columns.settle_column.Goals as goal
use Rattle.sj_lane.proofs.columns.settle_column.Goals.{then-from-len+then-to-len, then-from-len+else-to-len, else-from-len}

pub loop-from-init : goal.loop-from-init
loop-from-init c = (
  each2_refl OutsKept (λ l. record { outs = each2_refl OutKept out_itself l.outs.items; ins = refl }) c.args.lanes.now.items,
  each2_refl InKept in_itself c.args.column.now.items,
  λ p o i lt. absurd (omega arith),
)

pub index_mut-lane-requires : goal.index_mut-lane-requires
index_mut-lane-requires c = omega (arith, each2_length OutsKept c.args.lanes.now.items c.loop-from.lanes.items c.loop-from.invariant.0)

pub beside-requires : goal.beside-requires
beside-requires c =
    let n = each2_length OutsKept c.args.lanes.now.items c.loop-from.lanes.items c.loop-from.invariant.0 in
    let l : slice_get c.loop-from.lanes.items c.loop-from.from ≡ Some c.index_mut-lane.result.now = slice_get_read c.loop-from.lanes.items (length c.loop-from.lanes.items) c.loop-from.from c.index_mut-lane.result.now refl (omega arith) c.index_mut-lane.ensures.value in
    let o : slice_get c.index_mut-lane.result.now.outs.items c.args.to ≡ Some c.index_mut.result.now = slice_get_read c.index_mut-lane.result.now.outs.items (length c.index_mut-lane.result.now.outs.items) c.args.to c.index_mut.result.now refl (search rules) c.index_mut.ensures.value in
    let i : slice_get c.loop-from.column.items c.loop-from.from ≡ Some c.index_mut-then-to-len.result.now = slice_get_read c.loop-from.column.items (length c.loop-from.column.items) c.loop-from.from c.index_mut-then-to-len.result.now refl (search rules) c.index_mut-then-to-len.ensures.value in
    joined_now c.args.lanes.now.items c.loop-from.lanes.items c.args.column.now.items c.loop-from.column.items c.loop-from.from c.args.to c.index_mut-lane.result.now c.index_mut.result.now c.index_mut-then-to-len.result.now
    c.requires c.loop-from.invariant.0 c.loop-from.invariant.1 l o i

pub loop-from-preserved : goal.loop-from-preserved
loop-from-preserved c = elim c.if-from-len.branch [
  | then-from-len+then-to-len w ↦ (
      let n = each2_length OutsKept c.args.lanes.now.items c.loop-from.lanes.items c.loop-from.invariant.0 in
      let l : slice_get c.loop-from.lanes.items c.loop-from.from ≡ Some w.index_mut-lane.result.now = slice_get_read c.loop-from.lanes.items (length c.loop-from.lanes.items) c.loop-from.from w.index_mut-lane.result.now refl (omega arith) w.index_mut-lane.ensures.value in
      let o : slice_get w.index_mut-lane.result.now.outs.items c.args.to ≡ Some w.index_mut.result.now = slice_get_read w.index_mut-lane.result.now.outs.items (length w.index_mut-lane.result.now.outs.items) c.args.to w.index_mut.result.now refl (search rules) w.index_mut.ensures.value in
      let i : slice_get c.loop-from.column.items c.loop-from.from ≡ Some w.index_mut-then-to-len.result.now = slice_get_read c.loop-from.column.items (length c.loop-from.column.items) c.loop-from.from w.index_mut-then-to-len.result.now refl (search rules) w.index_mut-then-to-len.ensures.value in
      rw (w.lanes-is, w.column-is) (column_step c.args.lanes.now.items c.loop-from.lanes.items c.args.column.now.items c.loop-from.column.items c.loop-from.from c.args.to w.index_mut-lane.result.now _ w.index_mut.result.now _ w.index_mut-then-to-len.result.now _
      c.loop-from.invariant.0 c.loop-from.invariant.1 c.loop-from.invariant.2 l o i refl refl w.beside.ensures.out w.beside.ensures.lane w.beside.ensures.fed))
  | then-from-len+else-to-len w ↦ (
      let n = each2_length OutsKept c.args.lanes.now.items c.loop-from.lanes.items c.loop-from.invariant.0 in
      let l : slice_get c.loop-from.lanes.items c.loop-from.from ≡ Some w.index_mut-lane.result.now = slice_get_read c.loop-from.lanes.items (length c.loop-from.lanes.items) c.loop-from.from w.index_mut-lane.result.now refl (omega arith) w.index_mut-lane.ensures.value in
      let short : length w.index_mut-lane.result.now.outs.items ≤ c.args.to = search rules in
      rw (w.lanes-is, w.column-is) (each2_put OutsKept c.args.lanes.now.items c.loop-from.lanes.items c.loop-from.from w.index_mut-lane.result.now w.index_mut-lane.result.now c.loop-from.invariant.0 l (λ x r. r), c.loop-from.invariant.1, column_no_out c.args.lanes.now.items c.loop-from.lanes.items c.args.column.now.items c.loop-from.from c.args.to w.index_mut-lane.result.now c.loop-from.invariant.0 c.loop-from.invariant.2 l short))
  | else-from-len w ↦ (
      let short : length c.loop-from.column.items ≤ c.loop-from.from = search rules in
      rw (w.lanes-is, w.column-is) (c.loop-from.invariant.0, c.loop-from.invariant.1, column_no_in c.args.lanes.now.items c.args.column.now.items c.loop-from.column.items c.loop-from.from c.args.to c.loop-from.invariant.1 c.loop-from.invariant.2 short))
]
