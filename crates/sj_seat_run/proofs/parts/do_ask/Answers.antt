use Rattle.std.proofs.Common.{List, OnErr, IfOk, ◌≡◌, subst}
use Rattle.sj_seat.specs.declared.wish.OpenedSession.{OpenedSession}
use Rattle.sj_work.proofs.LaneLaws.{laws}
use Rattle.sj_seat_run.specs.Asked.{Lists}
use Rattle.sj_seat_run.proofs.PlayedLemmas.{so_call, so_none}
use Rattle.sj_seat_run.proofs.parts.do_ask.Goals as goal

pub returns-then-is_err : goal.returns-then-is_err
returns-then-is_err g c =
    let ol = g.met.O.OutLane g.world.𝓛 g.world.𝓜 g.world.𝓡 (λ s x. x, λ x. x, λ x. x, λ x. x) in
    let il = g.met.I.InLane g.world.𝓛 g.world.𝓜 g.world.𝓡 (λ s x. x, λ x. x, λ x. x, λ x. x) in
    let k = laws g.O.OutLane g.I.InLane ol.same_itself ol.same_later il.same_itself il.same_later in
    so_none k c.args.guest.now c.args.opened.now.items c.reserve.new.self.items c.reserve.ensures.items

pub returns : goal.returns
returns g c =
    let ol = g.met.O.OutLane g.world.𝓛 g.world.𝓜 g.world.𝓡 (λ s x. x, λ x. x, λ x. x, λ x. x) in
    let il = g.met.I.InLane g.world.𝓛 g.world.𝓜 g.world.𝓡 (λ s x. x, λ x. x, λ x. x, λ x. x) in
    let k = laws g.O.OutLane g.I.InLane ol.same_itself ol.same_later il.same_itself il.same_later in
    let h = c.ask-answer.ensures in
    let after = c.list_opened.new.opened.items in
    so_call k c.args.guest.now c.ask-answer.new.self h.keeps h.counts c.args.opened.now.items after c.args.ask.now c.ask-answer.result h.ok h.err h.tells
    (subst (λ (ss : List OpenedSession). IfOk c.ask-answer.result (λ o. Lists c.args.ask.now o ss after)) c.reserve.ensures.items c.list_opened.ensures.ok)
    (subst (λ (ss : List OpenedSession). OnErr c.ask-answer.result (after ≡ ss)) c.reserve.ensures.items c.list_opened.ensures.err)
