use Rattle.std.proofs.Common.{rules}
use Rattle.sj_work.proofs.LaneLaws.{laws}
use Rattle.sj_work.proofs.StopLemmas.{none_if}
use Rattle.sj_work.proofs.TurnLemmas.{clock_over, gone_more, gone_none, gone_turned}
use Rattle.sj_work.proofs.turns.go.Goals as goal

pub loop-worker-init : goal.loop-worker-init
loop-worker-init g c =
    let ol = g.met.O.OutLane g.world.𝓛 g.world.𝓜 g.world.𝓡 (λ s x. x, λ x. x, λ x. x, λ x. x) in
    let il = g.met.I.InLane g.world.𝓛 g.world.𝓜 g.world.𝓡 (λ s x. x, λ x. x, λ x. x, λ x. x) in
    let k = laws g.O.OutLane g.I.InLane ol.same_itself ol.same_later il.same_itself il.same_later in
    gone_none k c.args.looks c.args.worker.now c.requires

pub returns-then-is_some-clause-turned : goal.returns-then-is_some-clause-turned
returns-then-is_some-clause-turned g c =
    let ol = g.met.O.OutLane g.world.𝓛 g.world.𝓜 g.world.𝓡 (λ s x. x, λ x. x, λ x. x, λ x. x) in
    let il = g.met.I.InLane g.world.𝓛 g.world.𝓜 g.world.𝓡 (λ s x. x, λ x. x, λ x. x, λ x. x) in
    let k = laws g.O.OutLane g.I.InLane ol.same_itself ol.same_later il.same_itself il.same_later in
    gone_turned k c.args.looks c.args.worker.now c.loop-worker.worker c.until_event.new.worker c.loop-worker.invariant c.until_event.ensures.turned

pub loop-worker-preserved : goal.loop-worker-preserved
loop-worker-preserved g c =
    let ol = g.met.O.OutLane g.world.𝓛 g.world.𝓜 g.world.𝓡 (λ s x. x, λ x. x, λ x. x, λ x. x) in
    let il = g.met.I.InLane g.world.𝓛 g.world.𝓜 g.world.𝓡 (λ s x. x, λ x. x, λ x. x, λ x. x) in
    let k = laws g.O.OutLane g.I.InLane ol.same_itself ol.same_later il.same_itself il.same_later in
    gone_more k c.args.looks c.args.worker.now c.loop-worker.worker c.until_event.new.worker c.loop-worker.invariant c.until_event.ensures.turned
    (none_if c.until_event.new.worker.answer c.is_some.result c.is_some.ensures c.if-is_some.false)

pub returns-clause-turned : goal.returns-clause-turned
returns-clause-turned g c =
    let ol = g.met.O.OutLane g.world.𝓛 g.world.𝓜 g.world.𝓡 (λ s x. x, λ x. x, λ x. x, λ x. x) in
    let il = g.met.I.InLane g.world.𝓛 g.world.𝓜 g.world.𝓡 (λ s x. x, λ x. x, λ x. x, λ x. x) in
    let k = laws g.O.OutLane g.I.InLane ol.same_itself ol.same_later il.same_itself il.same_later in
    clock_over k c.args.looks c.args.worker.now c.loop-worker.worker c.loop-worker.invariant (search rules)
