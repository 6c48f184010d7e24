use Rattle.std.proofs.Common.{◌∙◌, length, refl, subst, sym}
use Rattle.std.proofs.lemmas.Result.{on_ok_weaker}
use Rattle.sj_lang.specs.Place.{Place}
use Rattle.sj_semantics.specs.declared.Want.TheVariants as wants
use Rattle.sj_semantics.specs.Requests.{opened_number}
use Rattle.sj_semantics.specs.World.{change_by_accepting, change_by_opening, change_by_taking}
use Rattle.sj_machine.specs.Sound.{program_at}
use Rattle.sj_plain.specs.Ends.{protocols_in}
use Rattle.sj_plain.specs.Opened.{requests_in}
use Rattle.sj_plain.specs.Stepping.{Makes, world_around}
use Rattle.sj_plain.proofs.AheadLemmas.{body_in_table}
use Rattle.sj_plain.proofs.TakingLemmas.{accepting, can_do, message_there, moves, offer_there, opening, request_left, taking}
use Rattle.sj_plain.proofs.progress.step.Goals as goal

pub returns-in-Take-clause-ok : goal.returns-in-Take-clause-ok
returns-in-Take-clause-ok c =
    let w = world_around c.args.table.now c.args.sessions.now.items c.args.opened.now.items in
    let g = program_at c.args.machine.now in
    let can = can_do w c.args.party g (wants.Take c.in-Take.end c.in-Take.awaits) c.requires.ready (sym c.in-Take.is ∙ c.requires.wants) in
    let x = message_there w c.args.party g c.in-Take.end c.in-Take.awaits can in
    on_ok_weaker c.take.result
    (λ done.
    moves c.args.table.now c.args.sessions.now.items c.take.new.sessions.items c.args.opened.now.items c.args.opened.now.items c.args.party g (program_at c.take.new.machine) (wants.Take c.in-Take.end c.in-Take.awaits)
    (change_by_taking (protocols_in c.args.table.now) g c.in-Take.end c.in-Take.awaits x.0) can (taking w c.args.party g c.in-Take.end c.in-Take.awaits x.0 x.1)
    (record { program = (done x.0 x.1).0; sessions = (done x.0 x.1).1; requests = λ q. refl }))
    c.take.ensures.ok

pub returns-in-Request-clause-ok : goal.returns-in-Request-clause-ok
returns-in-Request-clause-ok c =
    let w = world_around c.args.table.now c.args.sessions.now.items c.args.opened.now.items in
    let g = program_at c.args.machine.now in
    let can = can_do w c.args.party g (wants.Request c.in-Request.protocol c.in-Request.to) c.requires.ready (sym c.in-Request.is ∙ c.requires.wants) in
    let number = opened_number c.args.party (length (requests_in c.args.opened.now.items c.args.party)) in
    on_ok_weaker c.open_next.result
    (λ made.
    moves c.args.table.now c.args.sessions.now.items c.open_next.new.sessions.items c.args.opened.now.items c.open_next.new.opened.items c.args.party g (program_at c.open_next.new.machine) (wants.Request c.in-Request.protocol c.in-Request.to)
    _ can (opening w c.args.party g c.in-Request.protocol c.in-Request.to (request_left w c.args.party g c.in-Request.protocol c.in-Request.to can))
    (subst (λ (place : Place). Makes c.args.table.now c.args.party (change_by_opening g number place c.in-Request.to) c.args.sessions.now.items c.open_next.new.sessions.items c.args.opened.now.items c.open_next.new.opened.items (program_at c.open_next.new.machine)) (c.start-place.ensures.place ∙ sym (body_in_table c.args.table.now c.in-Request.protocol)) made))
    c.open_next.ensures.ok

pub returns-in-Accept-clause-ok : goal.returns-in-Accept-clause-ok
returns-in-Accept-clause-ok c =
    let w = world_around c.args.table.now c.args.sessions.now.items c.args.opened.now.items in
    let g = program_at c.args.machine.now in
    let can = can_do w c.args.party g (wants.Accept c.in-Accept.protocol c.in-Accept.from) c.requires.ready (sym c.in-Accept.is ∙ c.requires.wants) in
    let k = offer_there w c.args.party g c.in-Accept.protocol c.in-Accept.from can in
    on_ok_weaker c.accept_next.result
    (λ made.
    moves c.args.table.now c.args.sessions.now.items c.accept_next.new.sessions.items c.args.opened.now.items c.accept_next.new.opened.items c.args.party g (program_at c.accept_next.new.machine) (wants.Accept c.in-Accept.protocol c.in-Accept.from)
    _ can (accepting w c.args.party g c.in-Accept.protocol c.in-Accept.from k.0 k.1)
    (subst (λ (place : Place). Makes c.args.table.now c.args.party (change_by_accepting g c.in-Accept.from place k.0) c.args.sessions.now.items c.accept_next.new.sessions.items c.args.opened.now.items c.accept_next.new.opened.items (program_at c.accept_next.new.machine)) (c.start-place-in-Accept.ensures.place ∙ sym (body_in_table c.args.table.now c.in-Accept.protocol)) (made k.0 k.1)))
    c.accept_next.ensures.ok
