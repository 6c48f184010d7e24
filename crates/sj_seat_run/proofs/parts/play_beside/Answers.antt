use Rattle.std.proofs.Common.{◌≡◌, ◌∙◌, None, ap, sym}
use Rattle.sj_seat.specs.Views.{worker_of}
use Rattle.sj_work.proofs.LaneLaws.{laws}
use Rattle.sj_work.specs.Views.{stop_of}
use Rattle.sj_work.specs.Worked.{kept_stop}
use Rattle.sj_seat_run.proofs.PlayedLemmas.{so_attends}
use Rattle.sj_seat_run.proofs.parts.play_beside.Goals as goal

pub returns-then-not-stays : goal.returns-then-not-stays
returns-then-not-stays g c =
    let ol = g.met.O.OutLane g.world.𝓛 g.world.𝓜 g.world.𝓡 (λ s x. x, λ x. x, λ x. x, λ x. x) in
    let il = g.met.I.InLane g.world.𝓛 g.world.𝓜 g.world.𝓡 (λ s x. x, λ x. x, λ x. x, λ x. x) in
    let k = laws g.O.OutLane g.I.InLane ol.same_itself ol.same_later il.same_itself il.same_later in
    let l = c.play_out.new.guest in
    let kept : kept_stop (stop_of (worker_of l)) ≡ None = ap kept_stop (sym (c.stop.ensures ∙ ap stop_of c.worker.ensures)) ∙ c.stays.ensures c.if-not-stays.true in
    so_attends k c.args.actor.now.guest l c.attend_beside.new.guest c.args.actor.now.opened.items c.play_out.new.opened.items kept c.play_out.ensures c.attend_beside.ensures
