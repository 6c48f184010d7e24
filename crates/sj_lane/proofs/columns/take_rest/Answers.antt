use Rattle.std.proofs.Common.{rules, ◌≡◌, ◌<◌, Some, length, arith, refl, sym, ap, ◌∙◌}
use Rattle.std.specs.Prelude.{slice_get}
use Rattle.std.proofs.lemmas.Option.{slice_get_read}
use Rattle.std.proofs.Math.ListN.{set, length-set}
use Rattle.sj_lane.specs.Rings.{Each2, InKept, LanesKept, OutsKept, handed_of}
use Rattle.sj_lane.specs.Square.{in_in}
use Rattle.sj_lane.specs.declared.lane.Lanes.{Lanes}
use Rattle.sj_lane.specs.declared.ends.RingOut.{RingOut}
use Rattle.sj_lane.specs.declared.ends.RingIn.{RingIn}
use Rattle.sj_lane.proofs.EachLemmas.{each2_length, each2_refl}
use Rattle.sj_lane.proofs.SettleLemmas.{column_back, column_joined, kept_itself}
use Rattle.sj_lane.proofs.CellLemmas.{get_set_here}
use Rattle.sj_lane.proofs.HandLemmas.{rest_more, rest_there}
use Rattle.sj_lane.proofs.OtherLemmas.{others_back}
use Rattle.sj_lane.proofs.columns.take_rest.Goals as goal

pub returns-then-to-len-clause-lanes : goal.returns-then-to-len-clause-lanes
returns-then-to-len-clause-lanes c = each2_refl LanesKept kept_itself c.args.lanes.now.items

pub rest_in-frames-requires : goal.rest_in-frames-requires
rest_in-frames-requires c =
    let L = c.args.lanes.now.items in
    let row = c.index_mut.result.now in
    let at : slice_get L c.args.to ≡ Some row = slice_get_read L (length L) c.args.to row refl (search rules) c.index_mut.ensures.value in
    rw c.replace-column.ensures.value (column_joined L L c.args.to row (record { outs = row.outs; ins = c.replace-column.new.dest }) c.requires (each2_refl LanesKept kept_itself L) at refl)

pub index_mut-requires-2 : goal.index_mut-requires-2
index_mut-requires-2 c =
    let L = c.args.lanes.now.items in
    let row = c.index_mut.result.now in
    let l1 : Lanes RingOut RingIn = record { outs = row.outs; ins = c.replace-column.new.dest } in
    let m = each2_length OutsKept (set L c.args.to l1) c.rest_in-frames.new.lanes.items c.rest_in-frames.ensures.lanes in
    let k = length-set {A = Lanes RingOut RingIn} L c.args.to l1 in
    let lt : c.args.to < length L = search rules in
    omega (arith, m, k, lt, c.rest_in-frames.new.lanes.ok)

pub returns-clause-lanes : goal.returns-clause-lanes
returns-clause-lanes c =
    let L = c.args.lanes.now.items in
    let row = c.index_mut.result.now in
    let l1 : Lanes RingOut RingIn = record { outs = row.outs; ins = c.replace-column.new.dest } in
    let at : slice_get L c.args.to ≡ Some row = slice_get_read L (length L) c.args.to row refl (search rules) c.index_mut.ensures.value in
    let N = c.rest_in-frames.new.lanes.items in
    let m = each2_length OutsKept (set L c.args.to l1) N c.rest_in-frames.ensures.lanes in
    let k = length-set {A = Lanes RingOut RingIn} L c.args.to l1 in
    let lt : c.args.to < length L = search rules in
    let back = c.index_mut-2.result.now in
    let bt : slice_get N c.args.to ≡ Some back = slice_get_read N (length N) c.args.to back refl (omega (arith, m, k, lt)) c.index_mut-2.ensures.value in
    let col : Each2 InKept row.ins.items c.rest_in-frames.new.column.items = rw c.replace-column.ensures.value at c.rest_in-frames.ensures.column in
    column_back L L N c.args.to row l1 back _ (each2_refl LanesKept kept_itself L) at c.rest_in-frames.ensures.lanes bt refl col refl

pub returns-clause-rest : goal.returns-clause-rest
returns-clause-rest c =
    let L = c.args.lanes.now.items in
    let row = c.index_mut.result.now in
    let at : slice_get L c.args.to ≡ Some row = slice_get_read L (length L) c.args.to row refl (search rules) c.index_mut.ensures.value in
    rest_more c.rest_in-frames.result _ _
    (λ v r. rest_there L c.args.from c.args.to row (record { outs = row.outs; ins = c.replace-column.new.dest }) c.replace-column.result.items v.items at refl (ap (λ x. x.items) c.replace-column.ensures.value) r)
    c.rest_in-frames.ensures.rest

pub returns-then-to-len-clause-others : goal.returns-then-to-len-clause-others
returns-then-to-len-clause-others c = λ p q apart. (refl, refl)

pub returns-then-to-len-clause-handed : goal.returns-then-to-len-clause-handed
returns-then-to-len-clause-handed c = λ i j at now. let both : Some i ≡ Some j = sym at ∙ now in let same : i ≡ j = cc both in ap handed_of (sym same)

pub returns-clause-others : goal.returns-clause-others
returns-clause-others c = λ p q apart.
    let L = c.args.lanes.now.items in
    let row = c.index_mut.result.now in
    let l1 : Lanes RingOut RingIn = record { outs = row.outs; ins = c.replace-column.new.dest } in
    let at : slice_get L c.args.to ≡ Some row = slice_get_read L (length L) c.args.to row refl (search rules) c.index_mut.ensures.value in
    let N = c.rest_in-frames.new.lanes.items in
    let m = each2_length OutsKept (set L c.args.to l1) N c.rest_in-frames.ensures.lanes in
    let k = length-set {A = Lanes RingOut RingIn} L c.args.to l1 in
    let lt : c.args.to < length L = search rules in
    let back = c.index_mut-2.result.now in
    let bt : slice_get N c.args.to ≡ Some back = slice_get_read N (length N) c.args.to back refl (omega (arith, m, k, lt)) c.index_mut-2.ensures.value in
    let column = ap (λ x. slice_get x.items p) c.replace-column.ensures.value in
    others_back L N p q c.args.to row l1 back _ at refl c.rest_in-frames.ensures.lanes bt refl (c.rest_in-frames.ensures.outs p q apart)
    (λ is. c.rest_in-frames.ensures.ins p (λ e. apart (e, is)) ∙ column)

pub returns-clause-handed : goal.returns-clause-handed
returns-clause-handed c = λ i j was now.
    let L = c.args.lanes.now.items in
    let row = c.index_mut.result.now in
    let l1 : Lanes RingOut RingIn = record { outs = row.outs; ins = c.replace-column.new.dest } in
    let at : slice_get L c.args.to ≡ Some row = slice_get_read L (length L) c.args.to row refl (search rules) c.index_mut.ensures.value in
    let N = c.rest_in-frames.new.lanes.items in
    let m = each2_length OutsKept (set L c.args.to l1) N c.rest_in-frames.ensures.lanes in
    let k = length-set {A = Lanes RingOut RingIn} L c.args.to l1 in
    let lt : c.args.to < length L = search rules in
    let there : slice_get c.replace-column.result.items c.args.from ≡ Some i = ap (λ x. slice_get x.items c.args.from) c.replace-column.ensures.value ∙ sym (ap (λ s. in_in s c.args.from) at) ∙ was in
    let here = ap (λ s. in_in s c.args.from) (get_set_here N c.args.to _ (omega (arith, m, k, lt))) in
    c.rest_in-frames.ensures.handed i j there (sym here ∙ now)
