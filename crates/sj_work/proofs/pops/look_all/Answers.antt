use Rattle.std.proofs.Common.{rules, ℕ, ◌<◌, subst, sym}
use Rattle.sj_work.proofs.LaneLaws.{laws}
use Rattle.sj_work.proofs.LookLemmas.{look_event, look_more, look_rests, look_turns, looked_none}
use Rattle.sj_work.proofs.StopLemmas.{none_if}
use Rattle.sj_work.proofs.pops.look_all.Goals as goal

pub loop-from-init : goal.loop-from-init
loop-from-init g c =
    let ol = g.met.O.OutLane g.world.𝓛 g.world.𝓜 g.world.𝓡 (λ s x. x, λ x. x, λ x. x, λ x. x) in
    let il = g.met.I.InLane g.world.𝓛 g.world.𝓜 g.world.𝓡 (λ s x. x, λ x. x, λ x. x, λ x. x) in
    let k = laws g.O.OutLane g.I.InLane ol.same_itself ol.same_later il.same_itself il.same_later in
    looked_none k c.args.worker.now c.requires

pub loop-from-preserved : goal.loop-from-preserved
loop-from-preserved g c =
    let ol = g.met.O.OutLane g.world.𝓛 g.world.𝓜 g.world.𝓡 (λ s x. x, λ x. x, λ x. x, λ x. x) in
    let il = g.met.I.InLane g.world.𝓛 g.world.𝓜 g.world.𝓡 (λ s x. x, λ x. x, λ x. x, λ x. x) in
    let k = laws g.O.OutLane g.I.InLane ol.same_itself ol.same_later il.same_itself il.same_later in
    look_more k c.args.worker.now c.loop-from.worker c.look_on-came.new.worker c.loop-from.from c.loop-from.came c.look_on-came.result c.loop-from.invariant c.look_on-came.ensures.turns
    (none_if c.look_on-came.new.worker.answer c.is_some.result c.is_some.ensures c.if-is_some.false) c.look_on-came.ensures.event c.look_on-came.ensures.rests c.look_on-came.ensures.vain c.look_on-came.ensures.looks

pub returns-then-is_some-clause-turns : goal.returns-then-is_some-clause-turns
returns-then-is_some-clause-turns g c =
    let ol = g.met.O.OutLane g.world.𝓛 g.world.𝓜 g.world.𝓡 (λ s x. x, λ x. x, λ x. x, λ x. x) in
    let il = g.met.I.InLane g.world.𝓛 g.world.𝓜 g.world.𝓡 (λ s x. x, λ x. x, λ x. x, λ x. x) in
    let k = laws g.O.OutLane g.I.InLane ol.same_itself ol.same_later il.same_itself il.same_later in
    look_turns k c.args.worker.now c.loop-from.worker c.look_on-came.new.worker c.loop-from.from c.loop-from.came c.look_on-came.result c.loop-from.invariant c.look_on-came.ensures.turns

pub returns-then-is_some-clause-event : goal.returns-then-is_some-clause-event
returns-then-is_some-clause-event g c = λ h none.
    let ol = g.met.O.OutLane g.world.𝓛 g.world.𝓜 g.world.𝓡 (λ s x. x, λ x. x, λ x. x, λ x. x) in
    let il = g.met.I.InLane g.world.𝓛 g.world.𝓜 g.world.𝓡 (λ s x. x, λ x. x, λ x. x, λ x. x) in
    let k = laws g.O.OutLane g.I.InLane ol.same_itself ol.same_later il.same_itself il.same_later in
    look_event k c.args.worker.now c.loop-from.worker c.look_on-came.new.worker c.loop-from.from c.loop-from.came c.look_on-came.result c.loop-from.invariant c.look_on-came.ensures.turns none c.look_on-came.ensures.event h

pub returns-then-is_some-clause-rests : goal.returns-then-is_some-clause-rests
returns-then-is_some-clause-rests g c = λ h.
    let ol = g.met.O.OutLane g.world.𝓛 g.world.𝓜 g.world.𝓡 (λ s x. x, λ x. x, λ x. x, λ x. x) in
    let il = g.met.I.InLane g.world.𝓛 g.world.𝓜 g.world.𝓡 (λ s x. x, λ x. x, λ x. x, λ x. x) in
    let k = laws g.O.OutLane g.I.InLane ol.same_itself ol.same_later il.same_itself il.same_later in
    look_rests k c.args.worker.now c.loop-from.worker c.look_on-came.new.worker c.loop-from.from c.loop-from.came c.look_on-came.result c.loop-from.invariant c.look_on-came.ensures.turns c.look_on-came.ensures.rests h

pub look_on-came-requires-clause-party : goal.look_on-came-requires-clause-party
look_on-came-requires-clause-party g c κs within = subst (λ (n : ℕ). c.loop-from.from < n) (sym (c.loop-from.invariant.turns 0).went.parties) (search rules)
