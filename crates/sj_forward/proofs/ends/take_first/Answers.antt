use Rattle.sj_forward.proofs.EndsLemmas.{keeps_places, slot_read, takes_from}
use Rattle.sj_forward.proofs.FoundLemmas.{held_of_slot, held_somewhere, slot_used}
use Rattle.sj_forward.proofs.ends.take_first.Goals as goal

pub returns-clause-takes : goal.returns-clause-takes
returns-clause-takes c =
    let rows = c.args.ends.now.items in
    let there = slot_used rows c.args.end (held_somewhere rows c.args.end c.requires) in
    let at = slot_read rows c.args.end c.index_mut-row.result.now c.index_mut-slot.result.now there.0 there.1 c.index_mut-row.ensures.value c.index_mut-slot.ensures.value in
    λ h held. takes_from rows c.args.end c.index_mut-row.result.now c.index_mut-slot.result.now c.take_first.new.self h _ at
    (c.take_first.ensures.takes h (held_of_slot rows c.args.end c.index_mut-slot.result.now h at.is held))

pub returns-clause-places : goal.returns-clause-places
returns-clause-places c =
    let rows = c.args.ends.now.items in
    let there = slot_used rows c.args.end (held_somewhere rows c.args.end c.requires) in
    let at = slot_read rows c.args.end c.index_mut-row.result.now c.index_mut-slot.result.now there.0 there.1 c.index_mut-row.ensures.value c.index_mut-slot.ensures.value in
    keeps_places rows c.args.end c.index_mut-row.result.now c.index_mut-slot.result.now c.take_first.new.self at c.take_first.ensures.places
