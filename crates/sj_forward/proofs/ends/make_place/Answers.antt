use Rattle.sj_forward.proofs.EndsLemmas.{slot_read}
use Rattle.sj_forward.proofs.RoomLemmas.{ends_both}
use Rattle.sj_forward.proofs.SlotLemmas.{some_of}
use Rattle.sj_forward.proofs.ResultLemmas.{on_ok}
use Rattle.sj_forward.proofs.ends.make_place.Goals as goal

pub returns-clause-same : goal.returns-clause-same
returns-clause-same c =
    let rows = c.make_slot.new.ends.items in
    let there = some_of _ c.in_ok-make_slot.ensures.there in
    let at = slot_read rows c.args.end c.index_mut-row.result.now c.index_mut-slot.result.now there.0 there.1 c.index_mut-row.ensures.value c.index_mut-slot.ensures.value in
    ends_both _ rows _ c.make_slot.ensures.same (at.stays c.make_record.new.self c.make_record.ensures.same)

pub returns-clause-place : goal.returns-clause-place
returns-clause-place c =
    let rows = c.make_slot.new.ends.items in
    let there = some_of _ c.in_ok-make_slot.ensures.there in
    let at = slot_read rows c.args.end c.index_mut-row.result.now c.index_mut-slot.result.now there.0 there.1 c.index_mut-row.ensures.value c.index_mut-slot.ensures.value in
    on_ok c.make_record.result (λ within. record { slot = c.make_record.new.self; there = at.now c.make_record.new.self; within = within }) c.make_record.ensures.place
