use Rattle.sj_work.proofs.LaneLaws.{laws}
use Rattle.sj_work.proofs.PushLemmas.{push_more, push_rests, push_tried, push_turns, pushing_none}
use Rattle.sj_work.proofs.pushes.push_to.Goals as goal

pub loop-init : goal.loop-init
loop-init g c =
    let ol = g.met.O.OutLane g.world.𝓛 g.world.𝓜 g.world.𝓡 (λ s x. x, λ x. x, λ x. x, λ x. x) in
    let il = g.met.I.InLane g.world.𝓛 g.world.𝓜 g.world.𝓡 (λ s x. x, λ x. x, λ x. x, λ x. x) in
    let k = laws g.O.OutLane g.I.InLane ol.same_itself ol.same_later il.same_itself il.same_later in
    pushing_none k c.args.worker.now c.requires

pub loop-preserved : goal.loop-preserved
loop-preserved g c =
    let ol = g.met.O.OutLane g.world.𝓛 g.world.𝓜 g.world.𝓡 (λ s x. x, λ x. x, λ x. x, λ x. x) in
    let il = g.met.I.InLane g.world.𝓛 g.world.𝓜 g.world.𝓡 (λ s x. x, λ x. x, λ x. x, λ x. x) in
    let k = laws g.O.OutLane g.I.InLane ol.same_itself ol.same_later il.same_itself il.same_later in
    push_more k c.args.worker.now c.loop.worker c.push_one.new.worker c.loop.invariant c.push_one.ensures.turns c.push_one.ensures.rests (c.push_one.ensures.goes_on c.loop-test.true) c.push_one.ensures.looks

pub returns-clause-turns : goal.returns-clause-turns
returns-clause-turns g c =
    let ol = g.met.O.OutLane g.world.𝓛 g.world.𝓜 g.world.𝓡 (λ s x. x, λ x. x, λ x. x, λ x. x) in
    let il = g.met.I.InLane g.world.𝓛 g.world.𝓜 g.world.𝓡 (λ s x. x, λ x. x, λ x. x, λ x. x) in
    let k = laws g.O.OutLane g.I.InLane ol.same_itself ol.same_later il.same_itself il.same_later in
    push_turns k c.args.worker.now c.loop.worker c.push_one.new.worker c.loop.invariant c.push_one.ensures.turns c.push_one.ensures.rests

pub returns-clause-rests : goal.returns-clause-rests
returns-clause-rests g c =
    let ol = g.met.O.OutLane g.world.𝓛 g.world.𝓜 g.world.𝓡 (λ s x. x, λ x. x, λ x. x, λ x. x) in
    let il = g.met.I.InLane g.world.𝓛 g.world.𝓜 g.world.𝓡 (λ s x. x, λ x. x, λ x. x, λ x. x) in
    let k = laws g.O.OutLane g.I.InLane ol.same_itself ol.same_later il.same_itself il.same_later in
    push_rests k c.args.worker.now c.loop.worker c.push_one.new.worker c.loop.invariant c.push_one.ensures.turns c.push_one.ensures.rests

pub returns-clause-tried : goal.returns-clause-tried
returns-clause-tried g c = λ none.
    let ol = g.met.O.OutLane g.world.𝓛 g.world.𝓜 g.world.𝓡 (λ s x. x, λ x. x, λ x. x, λ x. x) in
    let il = g.met.I.InLane g.world.𝓛 g.world.𝓜 g.world.𝓡 (λ s x. x, λ x. x, λ x. x, λ x. x) in
    let k = laws g.O.OutLane g.I.InLane ol.same_itself ol.same_later il.same_itself il.same_later in
    push_tried k c.args.worker.now c.loop.worker c.push_one.new.worker c.loop.invariant c.push_one.ensures.turns c.push_one.ensures.rests c.args.to (c.push_one.ensures.tried c.loop-test.false none)
