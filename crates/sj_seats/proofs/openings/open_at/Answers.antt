use Rattle.std.proofs.Common.{IfOk, subst, sym}
use Rattle.sj_node.specs.Calls.{place_here}
use Rattle.sj_seat.specs.declared.wish.OpenWish.{OpenWish}
use Rattle.sj_seat.specs.declared.wish.OpenWish.TheVariants.{Request, Accept}
use Rattle.sj_seats.specs.Calling.{OpensSo}
use Rattle.sj_seats.proofs.SessionLemmas.{open_so}
use Rattle.sj_seats.proofs.openings.open_at.Goals as goal

pub returns-in-Request-clause-ok : goal.returns-in-Request-clause-ok
returns-in-Request-clause-ok c =
    let old = c.args.node.now in
    let new = c.call_request.new.self in
    let place = place_here old c.args.place in
    subst (λ (w : OpenWish). IfOk c.call_request.result (OpensSo old w place new)) (sym c.in-Request.is)
    (open_so old new (Request c.in-Request.party c.in-Request.protocol) place c.call_request.result c.call_request.ensures.ok c.call_request.ensures.opened)

pub returns-in-Accept-clause-ok : goal.returns-in-Accept-clause-ok
returns-in-Accept-clause-ok c =
    let old = c.args.node.now in
    let new = c.call_accept.new.self in
    let place = place_here old c.args.place in
    subst (λ (w : OpenWish). IfOk c.call_accept.result (OpensSo old w place new)) (sym c.in-Accept.is)
    (open_so old new (Accept c.in-Accept.party c.in-Accept.protocol) place c.call_accept.result c.call_accept.ensures.ok c.call_accept.ensures.opened)
