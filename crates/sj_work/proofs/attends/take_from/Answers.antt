use Rattle.std.proofs.Common.{ℕ, ◌<◌, subst, sym}
use Rattle.sj_work.proofs.TakeLemmas.{not_still, taking_more}
use Rattle.sj_work.proofs.LaneLaws.{laws}
use Rattle.sj_work.proofs.StopLemmas.{none_if}
use Rattle.sj_work.proofs.attends.take_from.Goals as goal

pub loop-init : goal.loop-init
loop-init g c = record {
  pieces = c.look.ensures.pieces;
  other = c.look.ensures.other;
  event = λ none. c.look.ensures.event c.if-not-look.false none;
}

pub returns-then-is_some-clause-vain : goal.returns-then-is_some-clause-vain
returns-then-is_some-clause-vain g c = λ none same. absurd (not_still _ _ (c.loop.invariant.event none) same)

pub look-requires-in-loop-clause-stop : goal.look-requires-in-loop-clause-stop
look-requires-in-loop-clause-stop g c κs within = none_if c.loop.worker.answer c.is_some.result c.is_some.ensures c.if-is_some.false

pub look-requires-in-loop-clause-party : goal.look-requires-in-loop-clause-party
look-requires-in-loop-clause-party g c κs within = subst (λ (n : ℕ). c.args.from < n) (sym (c.loop.invariant.pieces 0).went.parties) c.requires.party

pub returns-then-not-look-2-clause-pieces : goal.returns-then-not-look-2-clause-pieces
returns-then-not-look-2-clause-pieces g c =
    let ol = g.met.O.OutLane g.world.𝓛 g.world.𝓜 g.world.𝓡 (λ s x. x, λ x. x, λ x. x, λ x. x) in
    let il = g.met.I.InLane g.world.𝓛 g.world.𝓜 g.world.𝓡 (λ s x. x, λ x. x, λ x. x, λ x. x) in
    let k = laws g.O.OutLane g.I.InLane ol.same_itself ol.same_later il.same_itself il.same_later in
    (taking_more k c.args.worker.now c.loop.worker c.look-in-loop.new.worker c.loop.invariant (none_if c.loop.worker.answer c.is_some.result c.is_some.ensures c.if-is_some.false) c.look-in-loop.ensures.pieces c.look-in-loop.ensures.other).pieces

pub returns-then-not-look-2-clause-vain : goal.returns-then-not-look-2-clause-vain
returns-then-not-look-2-clause-vain g c = λ none same.
    let ol = g.met.O.OutLane g.world.𝓛 g.world.𝓜 g.world.𝓡 (λ s x. x, λ x. x, λ x. x, λ x. x) in
    let il = g.met.I.InLane g.world.𝓛 g.world.𝓜 g.world.𝓡 (λ s x. x, λ x. x, λ x. x, λ x. x) in
    let k = laws g.O.OutLane g.I.InLane ol.same_itself ol.same_later il.same_itself il.same_later in
    absurd (not_still _ _ ((taking_more k c.args.worker.now c.loop.worker c.look-in-loop.new.worker c.loop.invariant (none_if c.loop.worker.answer c.is_some.result c.is_some.ensures c.if-is_some.false) c.look-in-loop.ensures.pieces c.look-in-loop.ensures.other).event none) same)

pub loop-preserved : goal.loop-preserved
loop-preserved g c =
    let ol = g.met.O.OutLane g.world.𝓛 g.world.𝓜 g.world.𝓡 (λ s x. x, λ x. x, λ x. x, λ x. x) in
    let il = g.met.I.InLane g.world.𝓛 g.world.𝓜 g.world.𝓡 (λ s x. x, λ x. x, λ x. x, λ x. x) in
    let k = laws g.O.OutLane g.I.InLane ol.same_itself ol.same_later il.same_itself il.same_later in
    taking_more k c.args.worker.now c.loop.worker c.look-in-loop.new.worker c.loop.invariant (none_if c.loop.worker.answer c.is_some.result c.is_some.ensures c.if-is_some.false) c.look-in-loop.ensures.pieces c.look-in-loop.ensures.other

pub returns-clause-vain : goal.returns-clause-vain
returns-clause-vain g c = λ none same. absurd (not_still _ _ (c.loop.invariant.event none) same)
