use Rattle.std.proofs.Common.{option_map, ap, ◌∙◌}
use Rattle.sj_forward.specs.Ends.{Rows, records_in}
use Rattle.sj_forward.specs.Views.{seen_of, sent_at}
use Rattle.sj_forward.proofs.ArriveLemmas.{stored_so, storing_held, storing_parked}
use Rattle.sj_forward.proofs.ResultLemmas.{on_ok}
use Rattle.sj_forward.proofs.forwarder.Forwarder.come_in.Goals as goal

pub returns-in-Held-clause-ok : goal.returns-in-Held-clause-ok
returns-in-Held-clause-ok c =
    let told = c.in-Some.ensures.value ∙ ap (λ (rows : Rows). option_map seen_of (records_in rows c.args.to c.args.hop)) c.deref.ensures.value in
    on_ok c.store.result
    (λ stores. λ g. stored_so c.args.self.now c.store.new.ends c.args.to c.args.hop (sent_at c.args.sent) g
    (storing_held (records_in c.args.self.now.ends.items c.args.to c.args.hop) c.in-Some.seen told c.in-Held.is) stores)
    c.store.ensures.ok

pub returns-in-Parked-clause-ok : goal.returns-in-Parked-clause-ok
returns-in-Parked-clause-ok c =
    let told = c.in-Some.ensures.value ∙ ap (λ (rows : Rows). option_map seen_of (records_in rows c.args.to c.args.hop)) c.deref.ensures.value in
    on_ok c.store-in-Parked.result
    (λ stores. λ g. stored_so c.args.self.now c.store-in-Parked.new.ends c.args.to c.args.hop (sent_at c.args.sent) g
    (storing_parked (records_in c.args.self.now.ends.items c.args.to c.args.hop) c.in-Some.seen c.in-Parked.field-0 told c.in-Parked.is) stores)
    c.store-in-Parked.ensures.ok
