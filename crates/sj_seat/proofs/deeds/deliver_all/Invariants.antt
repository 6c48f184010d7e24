use Rattle.std.proofs.Common.{◌-◌}
use Rattle.sj_node.specs.Node.{clock_of}
use Rattle.sj_work.proofs.LaneLaws.{laws}
use Rattle.sj_seat.proofs.RoundLemmas.{Rounded}
use Rattle.sj_seat.proofs.deeds.deliver_all.Given as goal

abbrev pub invariant-loop-worker : goal.invariant-loop-worker
invariant-loop-worker g l =
    let ol = g.met.O.OutLane g.world.𝓛 g.world.𝓜 g.world.𝓡 (λ s x. x, λ x. x, λ x. x, λ x. x) in
    let il = g.met.I.InLane g.world.𝓛 g.world.𝓜 g.world.𝓡 (λ s x. x, λ x. x, λ x. x, λ x. x) in
    let k = laws g.O.OutLane g.I.InLane ol.same_itself ol.same_later il.same_itself il.same_later in
    Rounded k l.fn.worker l.worker

abbrev pub decreases-loop-worker : goal.decreases-loop-worker
decreases-loop-worker g l = 4611686018427387904 - clock_of l.worker.node
