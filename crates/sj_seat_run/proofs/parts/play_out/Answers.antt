use Rattle.std.proofs.Common.{◌≡◌, ◌∙◌, None, ap, refl, sym}
use Rattle.sj_seat.specs.Views.{worker_of}
use Rattle.sj_work.proofs.LaneLaws.{laws}
use Rattle.sj_work.specs.Views.{stop_of}
use Rattle.sj_work.specs.Worked.{kept_stop}
use Rattle.sj_seat_run.proofs.PlayedLemmas.{so_none, so_then}
use Rattle.sj_seat_run.proofs.parts.play_out.Goals as goal

pub loop-init : goal.loop-init
loop-init g c =
    let ol = g.met.O.OutLane g.world.𝓛 g.world.𝓜 g.world.𝓡 (λ s x. x, λ x. x, λ x. x, λ x. x) in
    let il = g.met.I.InLane g.world.𝓛 g.world.𝓜 g.world.𝓡 (λ s x. x, λ x. x, λ x. x, λ x. x) in
    let k = laws g.O.OutLane g.I.InLane ol.same_itself ol.same_later il.same_itself il.same_later in
    so_none k c.args.guest.now c.args.opened.now.items c.args.opened.now.items refl

pub loop-preserved : goal.loop-preserved
loop-preserved g c =
    let ol = g.met.O.OutLane g.world.𝓛 g.world.𝓜 g.world.𝓡 (λ s x. x, λ x. x, λ x. x, λ x. x) in
    let il = g.met.I.InLane g.world.𝓛 g.world.𝓜 g.world.𝓡 (λ s x. x, λ x. x, λ x. x, λ x. x) in
    let k = laws g.O.OutLane g.I.InLane ol.same_itself ol.same_later il.same_itself il.same_later in
    let l = c.loop.guest in
    let m = c.do_ask-told.new.guest in
    let kept : kept_stop (stop_of (worker_of l)) ≡ None = ap kept_stop (sym (c.stop.ensures ∙ ap stop_of c.worker.ensures)) ∙ c.stays.ensures c.if-stays.false in
    so_then k c.args.guest.now l m c.args.opened.now.items c.loop.opened.items c.do_ask-told.new.opened.items kept c.loop.invariant c.do_ask-told.ensures
