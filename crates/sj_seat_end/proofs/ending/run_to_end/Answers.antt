use Rattle.sj_check.specs.Held.{file_in}
use Rattle.sj_seat_end.proofs.EndLemmas.{at_end, drained_quiet}
use Rattle.sj_seats.specs.Seated.{history_of}
use Rattle.sj_seat_end.proofs.ending.run_to_end.Goals as goal

pub returns-clause-end : goal.returns-clause-end
returns-clause-end g c =
    let held = file_in c.args.accepted.now in
    at_end held c.file.result.now c.in-Ok.run'.world c.drain.new.self c.args.codes.items c.in-Ok.run'.codes.items c.file.ensures.value
    (drained_quiet held c.file.result.now c.in-Ok.run'.world c.drain.new.self c.file.ensures.value c.file.ensures.accepted
    c.in-Ok.ensures.kept c.drain.ensures.kept c.drain.ensures.parties c.drain.ensures.run c.in-Ok-drain.ensures.quiet)
    c.drain.ensures.seats c.in-Ok.ensures.seats c.in-Ok.ensures.codes

pub returns-clause-logged : goal.returns-clause-logged
returns-clause-logged g c = record { lines = history_of c.in-Ok.run'.world; logged = c.in-Ok.ensures.logged; begins = c.drain.ensures.grows }
