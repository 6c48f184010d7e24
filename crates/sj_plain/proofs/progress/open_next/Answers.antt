use Rattle.std.proofs.Common.{◌∙◌, ap, length, refl, List}
use Rattle.sj_semantics.specs.declared.Opened.{Opened}
use Rattle.sj_semantics.specs.Requests.{opened_number}
use Rattle.sj_machine.specs.Sound.{program_at}
use Rattle.sj_table.specs.Spots.{place_in}
use Rattle.sj_plain.specs.Opened.{requests_in}
use Rattle.sj_plain.proofs.OpeningLemmas.{opened_makes}
use Rattle.sj_plain.proofs.progress.open_next.Goals as goal

pub returns-clause-ok : goal.returns-clause-ok
returns-clause-ok c =
    opened_makes c.args.table.now c.args.party c.args.to c.opened_number-sess.result c.name_opened.result (program_at c.args.machine.now) (program_at c.opened.new.self) (place_in c.args.table.now c.args.place) _
    c.args.sessions.now.items c.reach.new.sessions.items c.begin.new.sessions.items c.begin-2.new.sessions.items c.args.opened.now.items c.add.new.opened.items
    (c.opened_number-sess.ensures ∙ ap (opened_number c.args.party) (c.requests_of.ensures ∙ ap (λ (t : List Opened). length (requests_in t c.args.party)) c.deref.ensures.value))
    c.name_opened.ensures refl c.opened.ensures c.in_ok-reach.ensures.ok (c.begin.ensures.begun c.args.table.now c.args.party) (c.begin-2.ensures.begun c.args.table.now c.args.party) c.in_default.ensures.ok
