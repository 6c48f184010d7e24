use Rattle.sj_work.proofs.TakeLemmas.{Taking}
use Rattle.sj_work.proofs.LaneLaws.{laws}
use Rattle.sj_work.proofs.attends.take_from.Given as goal

abbrev pub invariant-loop : goal.invariant-loop
invariant-loop g l =
    let ol = g.met.O.OutLane g.world.𝓛 g.world.𝓜 g.world.𝓡 (λ s x. x, λ x. x, λ x. x, λ x. x) in
    let il = g.met.I.InLane g.world.𝓛 g.world.𝓜 g.world.𝓡 (λ s x. x, λ x. x, λ x. x, λ x. x) in
    let k = laws g.O.OutLane g.I.InLane ol.same_itself ol.same_later il.same_itself il.same_later in
    Taking k l.fn.worker l.worker
