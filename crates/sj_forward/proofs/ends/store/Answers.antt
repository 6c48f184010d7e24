use Rattle.sj_forward.proofs.EndsLemmas.{slot_read, stores_in}
use Rattle.sj_forward.proofs.FoundLemmas.{slot_storing}
use Rattle.sj_forward.proofs.ResultLemmas.{on_err, on_ok}
use Rattle.sj_forward.proofs.ends.store.Goals as goal

pub returns-clause-ok : goal.returns-clause-ok
returns-clause-ok c =
    let rows = c.args.ends.now.items in
    let there = slot_storing rows c.args.end c.args.hop c.requires in
    let at = slot_read rows c.args.end c.index_mut-row.result.now c.index_mut-slot.result.now there.0 there.1 c.index_mut-row.ensures.value c.index_mut-slot.ensures.value in
    on_ok c.store.result (λ stores. λ r is. stores_in rows c.args.end c.index_mut-row.result.now c.index_mut-slot.result.now c.store.new.self c.args.hop r _ at is (stores r)) c.store.ensures.ok

pub returns-clause-err : goal.returns-clause-err
returns-clause-err c =
    let rows = c.args.ends.now.items in
    let there = slot_storing rows c.args.end c.args.hop c.requires in
    let at = slot_read rows c.args.end c.index_mut-row.result.now c.index_mut-slot.result.now there.0 there.1 c.index_mut-row.ensures.value c.index_mut-slot.ensures.value in
    on_err c.store.result (λ kept. at.stays c.store.new.self kept) c.store.ensures.err
