use Rattle.sj_seat.specs.Asking.{calls_made}
use Rattle.sj_remote_seat.proofs.CallLemmas.{played_call}
use Rattle.sj_work.proofs.LaneLaws.{laws}
use Rattle.sj_remote_seat.proofs.turns.perform.Goals as goal

pub returns : goal.returns
returns g c =
    let ol = g.met.O.OutLane g.world.𝓛 g.world.𝓜 g.world.𝓡 (λ s x. x, λ x. x, λ x. x, λ x. x) in
    let il = g.met.I.InLane g.world.𝓛 g.world.𝓜 g.world.𝓡 (λ s x. x, λ x. x, λ x. x, λ x. x) in
    let k = laws g.O.OutLane g.I.InLane ol.same_itself ol.same_later il.same_itself il.same_later in
    let h = c.ask.ensures in
    played_call k c.args.guest.now c.ask.new.self (calls_made c.args.ask.now) c.ask.result h.ok h.err h.keeps h.counts
