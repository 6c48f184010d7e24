use Rattle.std.proofs.Common.{ℕ, ◌<◌, subst, sym}
use Rattle.sj_work.proofs.LaneLaws.{laws}
use Rattle.sj_work.proofs.OnLemmas.{on_goes, on_more}
use Rattle.sj_work.proofs.StopLemmas.{none_if}
use Rattle.sj_work.proofs.pops.look_on.Goals as goal

pub loop-init : goal.loop-init
loop-init g c = record {
  turns = c.look_one.ensures.turns;
  event = λ none. c.look_one.ensures.event c.if-not-look_one.false none;
  looks = c.look_one.ensures.looks;
}

pub look_one-requires-in-loop-clause-goes : goal.look_one-requires-in-loop-clause-goes
look_one-requires-in-loop-clause-goes g c κs within =
    let ol = g.met.O.OutLane g.world.𝓛 g.world.𝓜 g.world.𝓡 (λ s x. x, λ x. x, λ x. x, λ x. x) in
    let il = g.met.I.InLane g.world.𝓛 g.world.𝓜 g.world.𝓡 (λ s x. x, λ x. x, λ x. x, λ x. x) in
    let k = laws g.O.OutLane g.I.InLane ol.same_itself ol.same_later il.same_itself il.same_later in
    on_goes k c.args.worker.now c.loop.worker c.loop.invariant (none_if c.loop.worker.answer c.is_some.result c.is_some.ensures c.if-is_some.false)

pub look_one-requires-in-loop-clause-party : goal.look_one-requires-in-loop-clause-party
look_one-requires-in-loop-clause-party g c κs within = subst (λ (n : ℕ). c.args.from < n) (sym (c.loop.invariant.turns 0).went.parties) c.requires.party

pub returns-then-not-look_one-2-clause-turns : goal.returns-then-not-look_one-2-clause-turns
returns-then-not-look_one-2-clause-turns g c =
    let ol = g.met.O.OutLane g.world.𝓛 g.world.𝓜 g.world.𝓡 (λ s x. x, λ x. x, λ x. x, λ x. x) in
    let il = g.met.I.InLane g.world.𝓛 g.world.𝓜 g.world.𝓡 (λ s x. x, λ x. x, λ x. x, λ x. x) in
    let k = laws g.O.OutLane g.I.InLane ol.same_itself ol.same_later il.same_itself il.same_later in
    (on_more k c.args.worker.now c.loop.worker c.look_one-in-loop.new.worker c.loop.invariant (none_if c.loop.worker.answer c.is_some.result c.is_some.ensures c.if-is_some.false) c.look_one-in-loop.ensures.turns c.look_one-in-loop.ensures.looks).turns

pub returns-then-not-look_one-2-clause-event : goal.returns-then-not-look_one-2-clause-event
returns-then-not-look_one-2-clause-event g c = λ h.
    let ol = g.met.O.OutLane g.world.𝓛 g.world.𝓜 g.world.𝓡 (λ s x. x, λ x. x, λ x. x, λ x. x) in
    let il = g.met.I.InLane g.world.𝓛 g.world.𝓜 g.world.𝓡 (λ s x. x, λ x. x, λ x. x, λ x. x) in
    let k = laws g.O.OutLane g.I.InLane ol.same_itself ol.same_later il.same_itself il.same_later in
    (on_more k c.args.worker.now c.loop.worker c.look_one-in-loop.new.worker c.loop.invariant (none_if c.loop.worker.answer c.is_some.result c.is_some.ensures c.if-is_some.false) c.look_one-in-loop.ensures.turns c.look_one-in-loop.ensures.looks).event

pub returns-then-not-look_one-2-clause-looks : goal.returns-then-not-look_one-2-clause-looks
returns-then-not-look_one-2-clause-looks g c =
    let ol = g.met.O.OutLane g.world.𝓛 g.world.𝓜 g.world.𝓡 (λ s x. x, λ x. x, λ x. x, λ x. x) in
    let il = g.met.I.InLane g.world.𝓛 g.world.𝓜 g.world.𝓡 (λ s x. x, λ x. x, λ x. x, λ x. x) in
    let k = laws g.O.OutLane g.I.InLane ol.same_itself ol.same_later il.same_itself il.same_later in
    (on_more k c.args.worker.now c.loop.worker c.look_one-in-loop.new.worker c.loop.invariant (none_if c.loop.worker.answer c.is_some.result c.is_some.ensures c.if-is_some.false) c.look_one-in-loop.ensures.turns c.look_one-in-loop.ensures.looks).looks

pub loop-preserved : goal.loop-preserved
loop-preserved g c =
    let ol = g.met.O.OutLane g.world.𝓛 g.world.𝓜 g.world.𝓡 (λ s x. x, λ x. x, λ x. x, λ x. x) in
    let il = g.met.I.InLane g.world.𝓛 g.world.𝓜 g.world.𝓡 (λ s x. x, λ x. x, λ x. x, λ x. x) in
    let k = laws g.O.OutLane g.I.InLane ol.same_itself ol.same_later il.same_itself il.same_later in
    on_more k c.args.worker.now c.loop.worker c.look_one-in-loop.new.worker c.loop.invariant (none_if c.loop.worker.answer c.is_some.result c.is_some.ensures c.if-is_some.false) c.look_one-in-loop.ensures.turns c.look_one-in-loop.ensures.looks
