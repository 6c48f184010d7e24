use Rattle.std.proofs.Common.{◌∙◌, ap, subst, sym}
use Rattle.sj_node.specs.Calls.{place_here}
use Rattle.sj_node.specs.Play.{next_want}
use Rattle.sj_work.proofs.LaneLaws.{laws}
use Rattle.sj_seat.specs.declared.wish.OpenWish.{OpenWish}
use Rattle.sj_seat.proofs.CountLemmas.{counted_alone}
use Rattle.sj_seat.proofs.SessionLemmas.{Opened, accepted, opened_cause, opened_keeps, opened_last, opened_none, opened_work, requested}
use Rattle.sj_seat.proofs.deeds.do_open.Goals as goal

pub returns-in-Request : goal.returns-in-Request
returns-in-Request g c =
    let ol = g.met.O.OutLane g.world.𝓛 g.world.𝓜 g.world.𝓡 (λ s x. x, λ x. x, λ x. x, λ x. x) in
    let il = g.met.I.InLane g.world.𝓛 g.world.𝓜 g.world.𝓡 (λ s x. x, λ x. x, λ x. x, λ x. x) in
    let k = laws g.O.OutLane g.I.InLane ol.same_itself ol.same_later il.same_itself il.same_later in
    let a = c.args.worker.now in
    let b = c.call_request.new.self in
    let h = c.call_request.ensures in
    let r = c.call_request.result in
    let wish = c.args.wish in
    let place = place_here a.node c.args.place in
    let x : Opened wish place a b r = subst (λ (w : OpenWish). Opened w place a b r) (sym c.in-Request.is) (requested place a b r c.in-Request.party c.in-Request.protocol h.ok h.opened h.err h.unfit h.at_limit h.waits h.ended) in
    record {
      keeps = opened_keeps k wish place a b h.lanes r x;
      idle = ap next_want h.program ∙ c.requires.idle;
      ok = opened_work k wish place a b h.lanes r x;
      err = λ file s parties. opened_none k wish place a b h.lanes r x file s;
      opened = opened_last k wish place a b h.lanes r x;
      counts = counted_alone k a b h.lanes h.stop;
      stop = h.stop;
      cause = opened_cause k wish place a b h.lanes r x;
    }

pub returns-in-Accept : goal.returns-in-Accept
returns-in-Accept g c =
    let ol = g.met.O.OutLane g.world.𝓛 g.world.𝓜 g.world.𝓡 (λ s x. x, λ x. x, λ x. x, λ x. x) in
    let il = g.met.I.InLane g.world.𝓛 g.world.𝓜 g.world.𝓡 (λ s x. x, λ x. x, λ x. x, λ x. x) in
    let k = laws g.O.OutLane g.I.InLane ol.same_itself ol.same_later il.same_itself il.same_later in
    let a = c.args.worker.now in
    let b = c.call_accept.new.self in
    let h = c.call_accept.ensures in
    let r = c.call_accept.result in
    let wish = c.args.wish in
    let place = place_here a.node c.args.place in
    let x : Opened wish place a b r = subst (λ (w : OpenWish). Opened w place a b r) (sym c.in-Accept.is) (accepted place a b r c.in-Accept.party c.in-Accept.protocol h.ok h.opened h.err h.unfit h.waits h.at_limit h.ended) in
    record {
      keeps = opened_keeps k wish place a b h.lanes r x;
      idle = ap next_want h.program ∙ c.requires.idle;
      ok = opened_work k wish place a b h.lanes r x;
      err = λ file s parties. opened_none k wish place a b h.lanes r x file s;
      opened = opened_last k wish place a b h.lanes r x;
      counts = counted_alone k a b h.lanes h.stop;
      stop = h.stop;
      cause = opened_cause k wish place a b h.lanes r x;
    }
