use Rattle.std.proofs.Common.{◌+◌, ◌∙◌, ap, refl, subst}
use Rattle.sj_seat.specs.Asked.{asked}
use Rattle.sj_seat.specs.Holding.{ends_at}
use Rattle.sj_seat_laws.specs.Calls.{Call}
use Rattle.sj_seat_laws.specs.Guards.{ends_after}
use Rattle.sj_seats.specs.Calling.{Calls}
use Rattle.sj_seats.proofs.CalledLemmas.{calls_so, logged}
use Rattle.sj_seats.proofs.calls.make.Goals as goal

pub noted-requires : goal.noted-requires
noted-requires c = logged c.args.node.now c.call.new.self _ _ _ _ c.in-Ok.ensures.ok

pub returns-in-Ok-clause-done : goal.returns-in-Ok-clause-done
returns-in-Ok-clause-done c =
    let t = c.args.table.now in
    let chair = c.args.chair.now in
    subst (λ (told : Call). Calls t c.args.node.now chair told c.noted.result c.noted.new.node (record { ends = c.go_on.new.ends; may = chair.may; calls = chair.calls + 1 })) c.in-Some.ensures.call
    (calls_so t c.args.node.now c.call.new.self c.noted.new.node chair _ c.in-Some.call c.noted.result c.in-Ok.taken c.in-Some.ensures.guarded
    c.in-Ok.ensures.ok c.in-Ok.ensures.taken c.in-Ok.ensures.takes c.noted.ensures.rest c.noted.ensures.entry
    (c.go_on.ensures ∙ ap (λ bs. ends_after (ends_at t bs) (asked c.in-Some.call) c.in-Ok.taken) c.reserve.ensures.items) refl refl)
