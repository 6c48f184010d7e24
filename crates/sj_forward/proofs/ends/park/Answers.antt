use Rattle.std.proofs.Common.{None}
use Rattle.sj_forward.proofs.EndsLemmas.{slot_read}
use Rattle.sj_forward.proofs.FoundLemmas.{held_of_slot, slot_used}
use Rattle.sj_forward.proofs.ends.park.Goals as goal

pub returns : goal.returns
returns c =
    let rows = c.args.ends.now.items in
    let there = slot_used rows c.args.end c.requires in
    let at = slot_read rows c.args.end c.index_mut-row.result.now c.index_mut-slot.result.now there.0 there.1 c.index_mut-row.ensures.value c.index_mut-slot.ensures.value in
    λ h held. at.written c.park.new.self None h.hop _ (c.park.ensures h (held_of_slot rows c.args.end c.index_mut-slot.result.now h at.is held))
