use Rattle.std.proofs.Common.{length}
use Rattle.sj_node.specs.Outs.{waiting_in}
use Rattle.sj_node.specs.Reading.{outs_of}
use Rattle.sj_work.proofs.LaneLaws.{laws}
use Rattle.sj_work.proofs.PushLemmas.{Pushing}
use Rattle.sj_work.proofs.pushes.push_to.Given as goal

abbrev pub invariant-loop : goal.invariant-loop
invariant-loop g l =
    let ol = g.met.O.OutLane g.world.𝓛 g.world.𝓜 g.world.𝓡 (λ s x. x, λ x. x, λ x. x, λ x. x) in
    let il = g.met.I.InLane g.world.𝓛 g.world.𝓜 g.world.𝓡 (λ s x. x, λ x. x, λ x. x, λ x. x) in
    let k = laws g.O.OutLane g.I.InLane ol.same_itself ol.same_later il.same_itself il.same_later in
    Pushing k l.initial.worker l.worker

abbrev pub decreases-loop : goal.decreases-loop
decreases-loop g l = length (waiting_in (outs_of l.worker.node) l.to)
