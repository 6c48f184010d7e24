use Rattle.std.proofs.Common.{rules, ℕ, ◌<◌, arith, sym, ◌∙◌, subst}
use Rattle.sj_work.specs.declared.worker.Stop.TheVariants as stops
use Rattle.sj_work.proofs.TakeLemmas.{all_taken, taken_more, taken_none, taken_turns}
use Rattle.sj_work.proofs.LaneLaws.{laws}
use Rattle.sj_work.proofs.LaneLemmas.{none_is}
use Rattle.sj_work.proofs.StopLemmas.{none_if, some_if}
use Rattle.sj_work.proofs.attends.take_all.Goals as goal

pub loop-from-init : goal.loop-from-init
loop-from-init g c =
    let ol = g.met.O.OutLane g.world.𝓛 g.world.𝓜 g.world.𝓡 (λ s x. x, λ x. x, λ x. x, λ x. x) in
    let il = g.met.I.InLane g.world.𝓛 g.world.𝓜 g.world.𝓡 (λ s x. x, λ x. x, λ x. x, λ x. x) in
    let k = laws g.O.OutLane g.I.InLane ol.same_itself ol.same_later il.same_itself il.same_later in
    taken_none k c.args.worker.now c.requires

pub take_from-requires-clause-party : goal.take_from-requires-clause-party
take_from-requires-clause-party g c κs within = subst (λ (n : ℕ). c.loop-from.from < n) (sym (c.loop-from.invariant.pieces 0).went.parties) (search rules)

pub returns-then-is_some-clause-pieces : goal.returns-then-is_some-clause-pieces
returns-then-is_some-clause-pieces g c =
    let ol = g.met.O.OutLane g.world.𝓛 g.world.𝓜 g.world.𝓡 (λ s x. x, λ x. x, λ x. x, λ x. x) in
    let il = g.met.I.InLane g.world.𝓛 g.world.𝓜 g.world.𝓡 (λ s x. x, λ x. x, λ x. x, λ x. x) in
    let k = laws g.O.OutLane g.I.InLane ol.same_itself ol.same_later il.same_itself il.same_later in
    taken_turns k c.args.worker.now c.loop-from.worker c.take_from.new.worker c.loop-from.from c.loop-from.invariant c.take_from.ensures.pieces

pub returns-then-is_some-clause-vain : goal.returns-then-is_some-clause-vain
returns-then-is_some-clause-vain g c = λ none. absurd (some_if c.take_from.new.worker.answer c.is_some.result c.is_some.ensures c.if-is_some.true none)

pub loop-from-preserved : goal.loop-from-preserved
loop-from-preserved g c =
    let ol = g.met.O.OutLane g.world.𝓛 g.world.𝓜 g.world.𝓡 (λ s x. x, λ x. x, λ x. x, λ x. x) in
    let il = g.met.I.InLane g.world.𝓛 g.world.𝓜 g.world.𝓡 (λ s x. x, λ x. x, λ x. x, λ x. x) in
    let k = laws g.O.OutLane g.I.InLane ol.same_itself ol.same_later il.same_itself il.same_later in
    taken_more k c.args.worker.now c.loop-from.worker c.take_from.new.worker c.loop-from.from c.loop-from.invariant c.take_from.ensures.pieces
    (none_if c.take_from.new.worker.answer c.is_some.result c.is_some.ensures c.if-is_some.false) c.take_from.ensures.vain

pub returns-clause-other : goal.returns-clause-other
returns-clause-other g c = λ h. none_is stops.Finished (sym c.loop-from.invariant.none ∙ h)

pub returns-clause-vain : goal.returns-clause-vain
returns-clause-vain g c = λ none same.
    let ol = g.met.O.OutLane g.world.𝓛 g.world.𝓜 g.world.𝓡 (λ s x. x, λ x. x, λ x. x, λ x. x) in
    let il = g.met.I.InLane g.world.𝓛 g.world.𝓜 g.world.𝓡 (λ s x. x, λ x. x, λ x. x, λ x. x) in
    let k = laws g.O.OutLane g.I.InLane ol.same_itself ol.same_later il.same_itself il.same_later in
    all_taken k c.args.worker.now c.loop-from.worker c.loop-from.from c.parties-from-end.result c.loop-from.invariant (search rules) (omega (arith, c.loop-from-test.false)) same
