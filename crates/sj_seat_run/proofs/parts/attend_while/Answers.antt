use Rattle.std.proofs.Common.{◌≡◌, ◌∙◌, None, ap, sym}
use Rattle.sj_seat.specs.Views.{worker_of}
use Rattle.sj_work.proofs.LaneLaws.{laws}
use Rattle.sj_work.specs.Views.{stop_of}
use Rattle.sj_work.specs.Worked.{kept_stop}
use Rattle.sj_seat_run.proofs.PlayedLemmas.{attends_none, attends_then}
use Rattle.sj_seat_run.proofs.parts.attend_while.Goals as goal

pub loop-looked-init : goal.loop-looked-init
loop-looked-init g c =
    let ol = g.met.O.OutLane g.world.𝓛 g.world.𝓜 g.world.𝓡 (λ s x. x, λ x. x, λ x. x, λ x. x) in
    let il = g.met.I.InLane g.world.𝓛 g.world.𝓜 g.world.𝓡 (λ s x. x, λ x. x, λ x. x, λ x. x) in
    let k = laws g.O.OutLane g.I.InLane ol.same_itself ol.same_later il.same_itself il.same_later in
    attends_none k c.args.guest.now

pub loop-looked-preserved : goal.loop-looked-preserved
loop-looked-preserved g c =
    let ol = g.met.O.OutLane g.world.𝓛 g.world.𝓜 g.world.𝓡 (λ s x. x, λ x. x, λ x. x, λ x. x) in
    let il = g.met.I.InLane g.world.𝓛 g.world.𝓜 g.world.𝓡 (λ s x. x, λ x. x, λ x. x, λ x. x) in
    let k = laws g.O.OutLane g.I.InLane ol.same_itself ol.same_later il.same_itself il.same_later in
    let l = c.loop-looked.guest in
    let m = c.attend.new.self in
    let h = c.attend.ensures in
    let kept : kept_stop (stop_of (worker_of l)) ≡ None = ap kept_stop (sym (c.stop.ensures ∙ ap stop_of c.worker.ensures)) ∙ c.stays.ensures c.if-stays.false in
    attends_then k c.args.guest.now l m kept c.loop-looked.invariant (record { went = h.went; keeps = h.keeps; counts = h.counts })
