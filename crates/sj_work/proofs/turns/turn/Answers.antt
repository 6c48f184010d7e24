use Rattle.std.proofs.Common.{None}
use Rattle.sj_work.proofs.LaneLaws.{laws}
use Rattle.sj_work.proofs.StopLemmas.{none_if}
use Rattle.sj_work.proofs.TurnLemmas.{going, turned_behind, went_of}
use Rattle.sj_work.proofs.VainLemmas.{vain_turn}
use Rattle.sj_work.proofs.WentLemmas.{went_later}
use Rattle.sj_work.proofs.turns.turn.Goals as goal

pub push_all-requires-after_bounds : goal.push_all-requires-after_bounds
push_all-requires-after_bounds g c κs within =
    let ol = g.met.O.OutLane g.world.𝓛 g.world.𝓜 g.world.𝓡 (λ s x. x, λ x. x, λ x. x, λ x. x) in
    let il = g.met.I.InLane g.world.𝓛 g.world.𝓜 g.world.𝓡 (λ s x. x, λ x. x, λ x. x, λ x. x) in
    let k = laws g.O.OutLane g.I.InLane ol.same_itself ol.same_later il.same_itself il.same_later in
    going k 0 c.args.worker.now c.look_all-came.new.worker (c.look_all-came.ensures.turns 0) (none_if c.look_all-came.new.worker.answer c.is_some.result c.is_some.ensures c.if-is_some.false)

pub returns-then-is_some-2-clause-turns : goal.returns-then-is_some-2-clause-turns
returns-then-is_some-2-clause-turns g c = λ looks.
    let ol = g.met.O.OutLane g.world.𝓛 g.world.𝓜 g.world.𝓡 (λ s x. x, λ x. x, λ x. x, λ x. x) in
    let il = g.met.I.InLane g.world.𝓛 g.world.𝓜 g.world.𝓡 (λ s x. x, λ x. x, λ x. x, λ x. x) in
    let k = laws g.O.OutLane g.I.InLane ol.same_itself ol.same_later il.same_itself il.same_later in
    let none = none_if c.look_all-came.new.worker.answer c.is_some.result c.is_some.ensures c.if-is_some.false in
    turned_behind k looks c.args.worker.now c.look_all-came.new.worker c.push_all.new.worker (went_of k c.args.worker.now c.look_all-came.new.worker (c.look_all-came.ensures.turns 0) none) (c.push_all.ensures.turns looks)

pub act_on-requires-after_bounds : goal.act_on-requires-after_bounds
act_on-requires-after_bounds g c κs within =
    let ol = g.met.O.OutLane g.world.𝓛 g.world.𝓜 g.world.𝓡 (λ s x. x, λ x. x, λ x. x, λ x. x) in
    let il = g.met.I.InLane g.world.𝓛 g.world.𝓜 g.world.𝓡 (λ s x. x, λ x. x, λ x. x, λ x. x) in
    let k = laws g.O.OutLane g.I.InLane ol.same_itself ol.same_later il.same_itself il.same_later in
    going k 0 c.look_all-came.new.worker c.push_all.new.worker (c.push_all.ensures.turns 0) (none_if c.push_all.new.worker.answer c.is_some-2.result c.is_some-2.ensures c.if-is_some-2.false)

pub returns-then-act_on-clause-turns : goal.returns-then-act_on-clause-turns
returns-then-act_on-clause-turns g c = λ looks.
    let ol = g.met.O.OutLane g.world.𝓛 g.world.𝓜 g.world.𝓡 (λ s x. x, λ x. x, λ x. x, λ x. x) in
    let il = g.met.I.InLane g.world.𝓛 g.world.𝓜 g.world.𝓡 (λ s x. x, λ x. x, λ x. x, λ x. x) in
    let k = laws g.O.OutLane g.I.InLane ol.same_itself ol.same_later il.same_itself il.same_later in
    let first = none_if c.look_all-came.new.worker.answer c.is_some.result c.is_some.ensures c.if-is_some.false in
    let second = none_if c.push_all.new.worker.answer c.is_some-2.result c.is_some-2.ensures c.if-is_some-2.false in
    turned_behind k looks c.args.worker.now c.push_all.new.worker c.act_on.new.worker
    (went_later k c.args.worker.now c.look_all-came.new.worker c.push_all.new.worker None
    (went_of k c.args.worker.now c.look_all-came.new.worker (c.look_all-came.ensures.turns 0) first)
    (went_of k c.look_all-came.new.worker c.push_all.new.worker (c.push_all.ensures.turns 0) second)) (c.act_on.ensures.turns looks)

pub returns-else-act_on-clause-turns : goal.returns-else-act_on-clause-turns
returns-else-act_on-clause-turns g c = λ looks.
    let ol = g.met.O.OutLane g.world.𝓛 g.world.𝓜 g.world.𝓡 (λ s x. x, λ x. x, λ x. x, λ x. x) in
    let il = g.met.I.InLane g.world.𝓛 g.world.𝓜 g.world.𝓡 (λ s x. x, λ x. x, λ x. x, λ x. x) in
    let k = laws g.O.OutLane g.I.InLane ol.same_itself ol.same_later il.same_itself il.same_later in
    let first = none_if c.look_all-came.new.worker.answer c.is_some.result c.is_some.ensures c.if-is_some.false in
    let second = none_if c.push_all.new.worker.answer c.is_some-2.result c.is_some-2.ensures c.if-is_some-2.false in
    turned_behind k looks c.args.worker.now c.push_all.new.worker c.act_on.new.worker
    (went_later k c.args.worker.now c.look_all-came.new.worker c.push_all.new.worker None
    (went_of k c.args.worker.now c.look_all-came.new.worker (c.look_all-came.ensures.turns 0) first)
    (went_of k c.look_all-came.new.worker c.push_all.new.worker (c.push_all.ensures.turns 0) second)) (c.act_on.ensures.turns looks)

pub returns-else-act_on-clause-vain : goal.returns-else-act_on-clause-vain
returns-else-act_on-clause-vain g c = λ h none.
    let ol = g.met.O.OutLane g.world.𝓛 g.world.𝓜 g.world.𝓡 (λ s x. x, λ x. x, λ x. x, λ x. x) in
    let il = g.met.I.InLane g.world.𝓛 g.world.𝓜 g.world.𝓡 (λ s x. x, λ x. x, λ x. x, λ x. x) in
    let k = laws g.O.OutLane g.I.InLane ol.same_itself ol.same_later il.same_itself il.same_later in
    let first = none_if c.look_all-came.new.worker.answer c.is_some.result c.is_some.ensures c.if-is_some.false in
    let second = none_if c.push_all.new.worker.answer c.is_some-2.result c.is_some-2.ensures c.if-is_some-2.false in
    vain_turn k c.args.worker.now c.look_all-came.new.worker c.push_all.new.worker c.act_on.new.worker
    (went_of k c.args.worker.now c.look_all-came.new.worker (c.look_all-came.ensures.turns 0) first)
    (went_of k c.look_all-came.new.worker c.push_all.new.worker (c.push_all.ensures.turns 0) second)
    (went_of k c.push_all.new.worker c.act_on.new.worker (c.act_on.ensures.turns 0) none)
    (c.look_all-came.ensures.rests h) (c.look_all-came.ensures.vain h first) c.push_all.ensures.rests (c.push_all.ensures.tried second) (c.act_on.ensures.rests c.if-act_on.false) (c.act_on.ensures.halted c.if-act_on.false none)
