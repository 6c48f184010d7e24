use Rattle.std.proofs.Common.{rules, ◌≡◌, ◌<◌, ap, refl, sym, ◌∙◌, length}
use Rattle.std.specs.Prelude.{Some, slice_get}
use Rattle.std.proofs.lemmas.Option.{slice_get_read}
use Rattle.sj_lane.specs.Square.{out_at, out_in}
use Rattle.sj_lane.specs.Rings.{InKept, OutKept, OutsKept, handed_of}
use Rattle.sj_lane.proofs.EachLemmas.{each2_put, each2_refl}
use Rattle.sj_lane.proofs.ColumnLemmas.{in_itself, in_later, out_later}
use Rattle.sj_lane.proofs.CellLemmas.{get_set_here, get_set_other, out_put}
use Rattle.sj_lane.proofs.HandLemmas.{outs_itself, rest_more}
use Rattle.sj_lane.proofs.OtherLemmas.{handed_between, set_same}
use Rattle.sj_lane.proofs.columns.rest_in.Goals as goal

pub returns-then-from-len-clause-lanes : goal.returns-then-from-len-clause-lanes
returns-then-from-len-clause-lanes c = outs_itself c.args.lanes.now.items

pub returns-then-from-len-clause-column : goal.returns-then-from-len-clause-column
returns-then-from-len-clause-column c = each2_refl InKept in_itself c.args.column.now.items

pub returns-then-to-len-clause-lanes : goal.returns-then-to-len-clause-lanes
returns-then-to-len-clause-lanes c =
    let lane = c.index_mut-lane.result.now in
    let l : slice_get c.args.lanes.now.items c.args.from ≡ Some lane = slice_get_read c.args.lanes.now.items (length c.args.lanes.now.items) c.args.from lane refl (search rules) c.index_mut-lane.ensures.value in
    each2_put OutsKept c.args.lanes.now.items c.args.lanes.now.items c.args.from lane lane (outs_itself c.args.lanes.now.items) l (λ x r. r)

pub returns-then-to-len-clause-column : goal.returns-then-to-len-clause-column
returns-then-to-len-clause-column c = each2_refl InKept in_itself c.args.column.now.items

pub rest_of-requires : goal.rest_of-requires
rest_of-requires c =
    let lane = c.index_mut-lane.result.now in
    let out = c.index_mut.result.now in
    let into = c.index_mut-2.result.now in
    let l : slice_get c.args.lanes.now.items c.args.from ≡ Some lane = slice_get_read c.args.lanes.now.items (length c.args.lanes.now.items) c.args.from lane refl (search rules) c.index_mut-lane.ensures.value in
    let o : slice_get lane.outs.items c.args.to ≡ Some out = slice_get_read lane.outs.items (length lane.outs.items) c.args.to out refl (search rules) c.index_mut.ensures.value in
    let i : slice_get c.args.column.now.items c.args.from ≡ Some into = slice_get_read c.args.column.now.items (length c.args.column.now.items) c.args.from into refl (search rules) c.index_mut-2.ensures.value in
    c.requires c.args.from out into (ap (λ s. out_in s c.args.to) l ∙ o) i

pub returns-clause-lanes : goal.returns-clause-lanes
returns-clause-lanes c =
    let lane = c.index_mut-lane.result.now in
    let out = c.index_mut.result.now in
    let l : slice_get c.args.lanes.now.items c.args.from ≡ Some lane = slice_get_read c.args.lanes.now.items (length c.args.lanes.now.items) c.args.from lane refl (search rules) c.index_mut-lane.ensures.value in
    let o : slice_get lane.outs.items c.args.to ≡ Some out = slice_get_read lane.outs.items (length lane.outs.items) c.args.to out refl (search rules) c.index_mut.ensures.value in
    each2_put OutsKept c.args.lanes.now.items c.args.lanes.now.items c.args.from lane _ (outs_itself c.args.lanes.now.items) l
    (λ x r. record {
      outs = each2_put OutKept x.outs.items lane.outs.items c.args.to out c.rest_of.new.out r.outs o (λ y s. out_later y out c.rest_of.new.out s c.rest_of.ensures.out);
      ins = r.ins;
    })

pub returns-clause-column : goal.returns-clause-column
returns-clause-column c =
    let into = c.index_mut-2.result.now in
    let i : slice_get c.args.column.now.items c.args.from ≡ Some into = slice_get_read c.args.column.now.items (length c.args.column.now.items) c.args.from into refl (search rules) c.index_mut-2.ensures.value in
    each2_put InKept c.args.column.now.items c.args.column.now.items c.args.from into c.rest_of.new.lane (each2_refl InKept in_itself c.args.column.now.items) i (λ x r. in_later x into c.rest_of.new.lane r c.rest_of.ensures.lane)

pub returns-clause-rest : goal.returns-clause-rest
returns-clause-rest c =
    let lane = c.index_mut-lane.result.now in
    let out = c.index_mut.result.now in
    let into = c.index_mut-2.result.now in
    let l : slice_get c.args.lanes.now.items c.args.from ≡ Some lane = slice_get_read c.args.lanes.now.items (length c.args.lanes.now.items) c.args.from lane refl (search rules) c.index_mut-lane.ensures.value in
    let o : slice_get lane.outs.items c.args.to ≡ Some out = slice_get_read lane.outs.items (length lane.outs.items) c.args.to out refl (search rules) c.index_mut.ensures.value in
    let i : slice_get c.args.column.now.items c.args.from ≡ Some into = slice_get_read c.args.column.now.items (length c.args.column.now.items) c.args.from into refl (search rules) c.index_mut-2.ensures.value in
    rest_more c.rest_of.result _ _
    (λ v all. record { producer = out; consumer = into; there = ap (λ s. out_in s c.args.to) l ∙ o; here = i; all = all })
    c.rest_of.ensures.rest

pub returns-then-from-len-clause-outs : goal.returns-then-from-len-clause-outs
returns-then-from-len-clause-outs c = λ p q apart. refl

pub returns-then-from-len-clause-ins : goal.returns-then-from-len-clause-ins
returns-then-from-len-clause-ins c = λ p apart. refl

pub returns-then-from-len-clause-handed : goal.returns-then-from-len-clause-handed
returns-then-from-len-clause-handed c = λ i j at now. let both : Some i ≡ Some j = sym at ∙ now in let same : i ≡ j = cc both in ap handed_of (sym same)

pub returns-then-to-len-clause-outs : goal.returns-then-to-len-clause-outs
returns-then-to-len-clause-outs c = λ p q apart.
    let lane = c.index_mut-lane.result.now in
    let l : slice_get c.args.lanes.now.items c.args.from ≡ Some lane = slice_get_read c.args.lanes.now.items (length c.args.lanes.now.items) c.args.from lane refl (search rules) c.index_mut-lane.ensures.value in
    ap (λ L. out_at L p q) (set_same c.args.lanes.now.items c.args.from lane l)

pub returns-then-to-len-clause-ins : goal.returns-then-to-len-clause-ins
returns-then-to-len-clause-ins c = λ p apart. refl

pub returns-then-to-len-clause-handed : goal.returns-then-to-len-clause-handed
returns-then-to-len-clause-handed c = λ i j at now. let both : Some i ≡ Some j = sym at ∙ now in let same : i ≡ j = cc both in ap handed_of (sym same)

pub returns-clause-outs : goal.returns-clause-outs
returns-clause-outs c = λ p q apart.
    let lane = c.index_mut-lane.result.now in
    let l : slice_get c.args.lanes.now.items c.args.from ≡ Some lane = slice_get_read c.args.lanes.now.items (length c.args.lanes.now.items) c.args.from lane refl (search rules) c.index_mut-lane.ensures.value in
    let within : c.args.to < length lane.outs.items = search rules in
    let put = out_put c.args.lanes.now.items c.args.from c.args.to lane _ c.rest_of.new.out l within refl refl in
    put.others p q apart

pub returns-clause-ins : goal.returns-clause-ins
returns-clause-ins c = λ p apart. get_set_other c.args.column.now.items c.args.from p c.rest_of.new.lane apart

pub returns-clause-handed : goal.returns-clause-handed
returns-clause-handed c = λ x y at now.
    let into = c.index_mut-2.result.now in
    let i : slice_get c.args.column.now.items c.args.from ≡ Some into = slice_get_read c.args.column.now.items (length c.args.column.now.items) c.args.from into refl (search rules) c.index_mut-2.ensures.value in
    let within : c.args.from < length c.args.column.now.items = search rules in
    handed_between _ _ x y into c.rest_of.new.lane c.rest_of.result i (get_set_here c.args.column.now.items c.args.from c.rest_of.new.lane within) c.rest_of.ensures.handed at now
