use Rattle.sj_forward.proofs.EndsLemmas.{slot_read, stores_in}
use Rattle.sj_forward.proofs.FoundLemmas.{slot_waiting}
use Rattle.sj_forward.proofs.ends.pass_on.Goals as goal

pub returns-clause-passes : goal.returns-clause-passes
returns-clause-passes c =
    let rows = c.args.ends.now.items in
    let there = slot_waiting rows c.args.end c.args.hop c.requires in
    let at = slot_read rows c.args.end c.index_mut-row.result.now c.index_mut-slot.result.now there.0 there.1 c.index_mut-row.ensures.value c.index_mut-slot.ensures.value in
    λ r is. stores_in rows c.args.end c.index_mut-row.result.now c.index_mut-slot.result.now c.pass_on.new.self c.args.hop r _ at is (c.pass_on.ensures.passes r)
