use Rattle.std.proofs.Common.{◌≡◌, ◌∙◌, Some, ap, length, sym, arith, subst, ℕ, List}
use Rattle.sj_semantics.specs.declared.Opened.{Opened}
use Rattle.sj_semantics.specs.Requests.{first_offer}
use Rattle.sj_semantics.specs.World.{change_by_accepting}
use Rattle.sj_machine.specs.Sound.{program_at}
use Rattle.sj_table.specs.Spots.{place_in}
use Rattle.sj_plain.specs.Opened.{requests_in}
use Rattle.sj_plain.specs.Stepping.{Makes}
use Rattle.sj_plain.proofs.OpeningLemmas.{accepted_makes, offer_below}
use Rattle.sj_plain.proofs.progress.accept_next.Goals as goal

pub session_number-sess-requires-clause-there : goal.session_number-sess-requires-clause-there
session_number-sess-requires-clause-there c =
    omega (arith, offer_below c.args.party (requests_in c.deref.result.now c.args.from) c.in-Some.number (sym c.in-Some.ensures), ap (λ (t : List Opened). length (requests_in t c.args.from)) c.deref.ensures.value, ap (λ (t : List Opened). length (requests_in t c.args.from)) c.deref-in-Some.ensures.value)

pub accept-requires-clause-there : goal.accept-requires-clause-there
accept-requires-clause-there c =
    omega (arith, offer_below c.args.party (requests_in c.deref.result.now c.args.from) c.in-Some.number (sym c.in-Some.ensures), ap (λ (t : List Opened). length (requests_in t c.args.from)) c.deref.ensures.value)

pub returns-in_ok-reach-clause-ok : goal.returns-in_ok-reach-clause-ok
returns-in_ok-reach-clause-ok c = λ k is.
    let both : Some c.in-Some.number ≡ Some k = c.in-Some.ensures ∙ ap (λ (t : List Opened). first_offer c.args.party (requests_in t c.args.from)) c.deref.ensures.value ∙ is in
    let same : c.in-Some.number ≡ k = cc in
    subst (λ (j : ℕ). Makes c.args.table.now c.args.party (change_by_accepting (program_at c.args.machine.now) c.args.from (place_in c.args.table.now c.args.place) j) c.args.sessions.now.items c.begin.new.sessions.items c.args.opened.now.items c.accept.new.opened.items (program_at c.opened.new.self)) same
    (accepted_makes c.args.table.now c.args.party c.args.from c.in-Some.number c.session_number-sess.result c.name_opened.result (program_at c.args.machine.now) (program_at c.opened.new.self) (place_in c.args.table.now c.args.place)
    c.args.sessions.now.items c.reach.new.sessions.items c.begin.new.sessions.items c.args.opened.now.items c.accept.new.opened.items
    c.session_number-sess.ensures c.name_opened.ensures c.opened.ensures c.in_ok-reach.ensures.ok (c.begin.ensures.begun c.args.table.now c.args.party) (λ x. c.accept.ensures.ok x c.args.party))
