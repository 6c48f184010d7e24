use Rattle.std.proofs.Common.{◌≡◌, ◌∙◌, None, ap, sym}
use Rattle.sj_seat.specs.Views.{worker_of}
use Rattle.sj_work.proofs.LaneLaws.{laws}
use Rattle.sj_work.specs.Views.{stop_of}
use Rattle.sj_work.specs.Worked.{kept_stop}
use Rattle.sj_seat_run.proofs.PlayedLemmas.{played_none, played_then}
use Rattle.sj_remote_seat.specs.Steps.{stays}
use Rattle.sj_remote_seat.proofs.StepsLemmas.{steps_then}
use Rattle.sj_remote_seat.proofs.turns.ask_on.Goals as goal

pub loop-init : goal.loop-init
loop-init g c =
    let ol = g.met.O.OutLane g.world.𝓛 g.world.𝓜 g.world.𝓡 (λ s x. x, λ x. x, λ x. x, λ x. x) in
    let il = g.met.I.InLane g.world.𝓛 g.world.𝓜 g.world.𝓡 (λ s x. x, λ x. x, λ x. x, λ x. x) in
    let k = laws g.O.OutLane g.I.InLane ol.same_itself ol.same_later il.same_itself il.same_later in
    record { played = played_none k c.args.guest.now; steps = stays }

pub loop-preserved : goal.loop-preserved
loop-preserved g c =
    let ol = g.met.O.OutLane g.world.𝓛 g.world.𝓜 g.world.𝓡 (λ s x. x, λ x. x, λ x. x, λ x. x) in
    let il = g.met.I.InLane g.world.𝓛 g.world.𝓜 g.world.𝓡 (λ s x. x, λ x. x, λ x. x, λ x. x) in
    let k = laws g.O.OutLane g.I.InLane ol.same_itself ol.same_later il.same_itself il.same_later in
    let kept : kept_stop (stop_of (worker_of c.loop.guest)) ≡ None = ap kept_stop (sym (c.stop.ensures ∙ ap stop_of c.worker.ensures)) ∙ c.stays.ensures c.if-stays.false in
    record {
      played = played_then k c.args.guest.now c.loop.guest c.perform-told.new.guest kept c.loop.invariant.played c.perform-told.ensures;
      steps = steps_then g.C.Code.step c.loop.invariant.steps c.turn_to.ensures;
    }

pub returns-in_err-waits-clause-played : goal.returns-in_err-waits-clause-played
returns-in_err-waits-clause-played g c =
    let ol = g.met.O.OutLane g.world.𝓛 g.world.𝓜 g.world.𝓡 (λ s x. x, λ x. x, λ x. x, λ x. x) in
    let il = g.met.I.InLane g.world.𝓛 g.world.𝓜 g.world.𝓡 (λ s x. x, λ x. x, λ x. x, λ x. x) in
    let k = laws g.O.OutLane g.I.InLane ol.same_itself ol.same_later il.same_itself il.same_later in
    let kept : kept_stop (stop_of (worker_of c.loop.guest)) ≡ None = ap kept_stop (sym (c.stop.ensures ∙ ap stop_of c.worker.ensures)) ∙ c.stays.ensures c.if-stays.false in
    played_then k c.args.guest.now c.loop.guest c.perform-told.new.guest kept c.loop.invariant.played c.perform-told.ensures

pub returns-then-waits-clause-played : goal.returns-then-waits-clause-played
returns-then-waits-clause-played g c =
    let ol = g.met.O.OutLane g.world.𝓛 g.world.𝓜 g.world.𝓡 (λ s x. x, λ x. x, λ x. x, λ x. x) in
    let il = g.met.I.InLane g.world.𝓛 g.world.𝓜 g.world.𝓡 (λ s x. x, λ x. x, λ x. x, λ x. x) in
    let k = laws g.O.OutLane g.I.InLane ol.same_itself ol.same_later il.same_itself il.same_later in
    let kept : kept_stop (stop_of (worker_of c.loop.guest)) ≡ None = ap kept_stop (sym (c.stop.ensures ∙ ap stop_of c.worker.ensures)) ∙ c.stays.ensures c.if-stays.false in
    played_then k c.args.guest.now c.loop.guest c.perform-told.new.guest kept c.loop.invariant.played c.perform-told.ensures
