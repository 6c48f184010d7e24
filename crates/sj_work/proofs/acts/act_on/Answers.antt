use Rattle.sj_work.proofs.LaneLaws.{laws}
use Rattle.sj_work.proofs.OnLemmas.{on_goes, on_more}
use Rattle.sj_work.proofs.StopLemmas.{none_if}
use Rattle.sj_work.proofs.acts.act_on.Goals as goal

pub loop-init : goal.loop-init
loop-init g c = record {
  turns = c.act.ensures.turns;
  event = λ none. c.act.ensures.event c.if-not-act.false;
  looks = c.act.ensures.looks;
}

pub act-requires-in-loop-after_bounds : goal.act-requires-in-loop-after_bounds
act-requires-in-loop-after_bounds g c κs within =
    let ol = g.met.O.OutLane g.world.𝓛 g.world.𝓜 g.world.𝓡 (λ s x. x, λ x. x, λ x. x, λ x. x) in
    let il = g.met.I.InLane g.world.𝓛 g.world.𝓜 g.world.𝓡 (λ s x. x, λ x. x, λ x. x, λ x. x) in
    let k = laws g.O.OutLane g.I.InLane ol.same_itself ol.same_later il.same_itself il.same_later in
    on_goes k c.args.worker.now c.loop.worker c.loop.invariant (none_if c.loop.worker.answer c.is_some.result c.is_some.ensures c.if-is_some.false)

pub returns-then-not-act-2-clause-turns : goal.returns-then-not-act-2-clause-turns
returns-then-not-act-2-clause-turns g c =
    let ol = g.met.O.OutLane g.world.𝓛 g.world.𝓜 g.world.𝓡 (λ s x. x, λ x. x, λ x. x, λ x. x) in
    let il = g.met.I.InLane g.world.𝓛 g.world.𝓜 g.world.𝓡 (λ s x. x, λ x. x, λ x. x, λ x. x) in
    let k = laws g.O.OutLane g.I.InLane ol.same_itself ol.same_later il.same_itself il.same_later in
    (on_more k c.args.worker.now c.loop.worker c.act-in-loop.new.worker c.loop.invariant (none_if c.loop.worker.answer c.is_some.result c.is_some.ensures c.if-is_some.false) c.act-in-loop.ensures.turns c.act-in-loop.ensures.looks).turns

pub returns-then-not-act-2-clause-event : goal.returns-then-not-act-2-clause-event
returns-then-not-act-2-clause-event g c = λ h.
    let ol = g.met.O.OutLane g.world.𝓛 g.world.𝓜 g.world.𝓡 (λ s x. x, λ x. x, λ x. x, λ x. x) in
    let il = g.met.I.InLane g.world.𝓛 g.world.𝓜 g.world.𝓡 (λ s x. x, λ x. x, λ x. x, λ x. x) in
    let k = laws g.O.OutLane g.I.InLane ol.same_itself ol.same_later il.same_itself il.same_later in
    (on_more k c.args.worker.now c.loop.worker c.act-in-loop.new.worker c.loop.invariant (none_if c.loop.worker.answer c.is_some.result c.is_some.ensures c.if-is_some.false) c.act-in-loop.ensures.turns c.act-in-loop.ensures.looks).event

pub returns-then-not-act-2-clause-looks : goal.returns-then-not-act-2-clause-looks
returns-then-not-act-2-clause-looks g c =
    let ol = g.met.O.OutLane g.world.𝓛 g.world.𝓜 g.world.𝓡 (λ s x. x, λ x. x, λ x. x, λ x. x) in
    let il = g.met.I.InLane g.world.𝓛 g.world.𝓜 g.world.𝓡 (λ s x. x, λ x. x, λ x. x, λ x. x) in
    let k = laws g.O.OutLane g.I.InLane ol.same_itself ol.same_later il.same_itself il.same_later in
    (on_more k c.args.worker.now c.loop.worker c.act-in-loop.new.worker c.loop.invariant (none_if c.loop.worker.answer c.is_some.result c.is_some.ensures c.if-is_some.false) c.act-in-loop.ensures.turns c.act-in-loop.ensures.looks).looks

pub loop-preserved : goal.loop-preserved
loop-preserved g c =
    let ol = g.met.O.OutLane g.world.𝓛 g.world.𝓜 g.world.𝓡 (λ s x. x, λ x. x, λ x. x, λ x. x) in
    let il = g.met.I.InLane g.world.𝓛 g.world.𝓜 g.world.𝓡 (λ s x. x, λ x. x, λ x. x, λ x. x) in
    let k = laws g.O.OutLane g.I.InLane ol.same_itself ol.same_later il.same_itself il.same_later in
    on_more k c.args.worker.now c.loop.worker c.act-in-loop.new.worker c.loop.invariant (none_if c.loop.worker.answer c.is_some.result c.is_some.ensures c.if-is_some.false) c.act-in-loop.ensures.turns c.act-in-loop.ensures.looks
