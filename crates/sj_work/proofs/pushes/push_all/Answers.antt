use Rattle.std.proofs.Common.{arith}
use Rattle.sj_work.proofs.LaneLaws.{laws}
use Rattle.sj_work.proofs.PushLemmas.{all_tried, push_rests, push_turns, pushed_more, pushed_none}
use Rattle.sj_work.proofs.StopLemmas.{none_if}
use Rattle.sj_work.proofs.pushes.push_all.Goals as goal

pub loop-to-init : goal.loop-to-init
loop-to-init g c =
    let ol = g.met.O.OutLane g.world.𝓛 g.world.𝓜 g.world.𝓡 (λ s x. x, λ x. x, λ x. x, λ x. x) in
    let il = g.met.I.InLane g.world.𝓛 g.world.𝓜 g.world.𝓡 (λ s x. x, λ x. x, λ x. x, λ x. x) in
    let k = laws g.O.OutLane g.I.InLane ol.same_itself ol.same_later il.same_itself il.same_later in
    pushed_none k c.args.worker.now c.requires

pub loop-to-preserved : goal.loop-to-preserved
loop-to-preserved g c =
    let ol = g.met.O.OutLane g.world.𝓛 g.world.𝓜 g.world.𝓡 (λ s x. x, λ x. x, λ x. x, λ x. x) in
    let il = g.met.I.InLane g.world.𝓛 g.world.𝓜 g.world.𝓡 (λ s x. x, λ x. x, λ x. x, λ x. x) in
    let k = laws g.O.OutLane g.I.InLane ol.same_itself ol.same_later il.same_itself il.same_later in
    let none = none_if c.push_to.new.worker.answer c.is_some.result c.is_some.ensures c.if-is_some.false in
    pushed_more k c.args.worker.now c.loop-to.worker c.push_to.new.worker c.loop-to.to c.loop-to.invariant c.push_to.ensures.turns c.push_to.ensures.rests none c.push_to.ensures.looks (c.push_to.ensures.tried none)

pub returns-then-is_some-clause-turns : goal.returns-then-is_some-clause-turns
returns-then-is_some-clause-turns g c =
    let ol = g.met.O.OutLane g.world.𝓛 g.world.𝓜 g.world.𝓡 (λ s x. x, λ x. x, λ x. x, λ x. x) in
    let il = g.met.I.InLane g.world.𝓛 g.world.𝓜 g.world.𝓡 (λ s x. x, λ x. x, λ x. x, λ x. x) in
    let k = laws g.O.OutLane g.I.InLane ol.same_itself ol.same_later il.same_itself il.same_later in
    push_turns k c.args.worker.now c.loop-to.worker c.push_to.new.worker c.loop-to.invariant.pushing c.push_to.ensures.turns c.push_to.ensures.rests

pub returns-then-is_some-clause-rests : goal.returns-then-is_some-clause-rests
returns-then-is_some-clause-rests g c =
    let ol = g.met.O.OutLane g.world.𝓛 g.world.𝓜 g.world.𝓡 (λ s x. x, λ x. x, λ x. x, λ x. x) in
    let il = g.met.I.InLane g.world.𝓛 g.world.𝓜 g.world.𝓡 (λ s x. x, λ x. x, λ x. x, λ x. x) in
    let k = laws g.O.OutLane g.I.InLane ol.same_itself ol.same_later il.same_itself il.same_later in
    push_rests k c.args.worker.now c.loop-to.worker c.push_to.new.worker c.loop-to.invariant.pushing c.push_to.ensures.turns c.push_to.ensures.rests

pub returns-clause-tried : goal.returns-clause-tried
returns-clause-tried g c = λ none.
    let ol = g.met.O.OutLane g.world.𝓛 g.world.𝓜 g.world.𝓡 (λ s x. x, λ x. x, λ x. x, λ x. x) in
    let il = g.met.I.InLane g.world.𝓛 g.world.𝓜 g.world.𝓡 (λ s x. x, λ x. x, λ x. x, λ x. x) in
    let k = laws g.O.OutLane g.I.InLane ol.same_itself ol.same_later il.same_itself il.same_later in
    all_tried k c.args.worker.now c.loop-to.worker c.loop-to.to c.targets-to-end.result c.loop-to.invariant (omega (arith, c.loop-to-test.false)) c.targets-to-end.ensures.none
