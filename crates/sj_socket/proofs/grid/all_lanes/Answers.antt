use Rattle.std.proofs.Common.{◌≡◌, ℕ, ◌<◌, arith, length, refl, subst}
use Rattle.std.proofs.lemmas.Option.{slice_get_read}
use Rattle.sj_socket.specs.Rows.{AreNewOuts, Grid}
use Rattle.sj_socket.proofs.RowLemmas.{outs_more}
use Rattle.sj_socket.proofs.grid.all_lanes.Goals as goal

pub loop-from-preserved : goal.loop-from-preserved
loop-from-preserved g c =
    let grid = c.loop-from.invariant.0 in
    let size : length c.loop-from.lanes.items ≡ c.args.parties = grid.size in
    let go = c.loop-from-test.true in
    let end = c.from-from-end.ensures in
    let lt : c.loop-from.from < c.args.parties = omega (arith, go, end) in
    let now : Grid c.args.parties c.loop-from.from c.args.parties c.row.new.lanes.items =
    subst (λ (n : ℕ). Grid n c.loop-from.from n c.row.new.lanes.items) size c.in-Ok-row.ensures.lanes in
    let news : AreNewOuts c.args.parties c.in-Ok-row.outs.items = subst (λ (n : ℕ). AreNewOuts n c.in-Ok-row.outs.items) size c.in-Ok-row.ensures.outs in
    let long = now.size in
    let at = slice_get_read c.row.new.lanes.items (length c.row.new.lanes.items) c.loop-from.from c.index_mut.result.now refl (omega (arith, lt, long)) c.index_mut.ensures.value in
    (outs_more c.args.parties c.loop-from.from c.row.new.lanes.items c.index_mut.result.now _ now lt at news c.in-Ok-row.ensures.links refl, omega (arith, lt))

pub returns : goal.returns
returns g c =
    let over = c.loop-from-test.false in
    let end = c.from-from-end.ensures in
    let most = c.loop-from.invariant.1 in
    let all : c.loop-from.from ≡ c.args.parties = omega (arith, over, end, most) in
    subst (λ (k : ℕ). Grid c.args.parties k 0 c.loop-from.lanes.items) all c.loop-from.invariant.0
