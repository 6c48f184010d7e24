use Rattle.std.proofs.Common.{None, Some, refl}
use Rattle.sj_work.specs.declared.worker.Outcome.TheVariants as answers
use Rattle.sj_work.proofs.AttendLemmas.{attended_idle, attended_turned}
use Rattle.sj_work.proofs.LaneLaws.{laws}
use Rattle.sj_work.proofs.RestLemmas.{rests_itself}
use Rattle.sj_work.proofs.StopLemmas.{none_if, some_if}
use Rattle.sj_work.proofs.TurnLemmas.{going, turned_behind, turned_seen, went_of}
use Rattle.sj_work.proofs.WentLemmas.{went_again, went_itself, went_later}
use Rattle.sj_work.proofs.attends.push_on.Goals as goal

pub returns-then-is_some-clause-attended : goal.returns-then-is_some-clause-attended
returns-then-is_some-clause-attended g c =
    let ol = g.met.O.OutLane g.world.𝓛 g.world.𝓜 g.world.𝓡 (λ s x. x, λ x. x, λ x. x, λ x. x) in
    let il = g.met.I.InLane g.world.𝓛 g.world.𝓜 g.world.𝓡 (λ s x. x, λ x. x, λ x. x, λ x. x) in
    let k = laws g.O.OutLane g.I.InLane ol.same_itself ol.same_later il.same_itself il.same_later in
    let a = c.args.worker.now in
    let b = record a { answer = c.finished-worker.result } in
    attended_turned k a b (turned_seen k a b c.finished-worker.result refl c.finished-worker.ensures (went_itself k a b refl refl))

pub returns-then-is_some-clause-rests : goal.returns-then-is_some-clause-rests
returns-then-is_some-clause-rests g c = rests_itself c.args.worker.now.node c.args.worker.now.node refl

pub returns-then-is_some-clause-stops : goal.returns-then-is_some-clause-stops
returns-then-is_some-clause-stops g c = some_if c.finished-worker.result c.is_some.result c.is_some.ensures c.if-is_some.true

pub push_all-requires-after_bounds : goal.push_all-requires-after_bounds
push_all-requires-after_bounds g c κs within =
    let ol = g.met.O.OutLane g.world.𝓛 g.world.𝓜 g.world.𝓡 (λ s x. x, λ x. x, λ x. x, λ x. x) in
    let il = g.met.I.InLane g.world.𝓛 g.world.𝓜 g.world.𝓡 (λ s x. x, λ x. x, λ x. x, λ x. x) in
    let k = laws g.O.OutLane g.I.InLane ol.same_itself ol.same_later il.same_itself il.same_later in
    let a = c.args.worker.now in
    let b = record a { answer = c.finished-worker.result } in
    going k 0 a b (turned_seen k a b c.finished-worker.result refl c.finished-worker.ensures (went_itself k a b refl refl) 0) (none_if c.finished-worker.result c.is_some.result c.is_some.ensures c.if-is_some.false)

pub returns-then-is_some-2-clause-attended : goal.returns-then-is_some-2-clause-attended
returns-then-is_some-2-clause-attended g c =
    let ol = g.met.O.OutLane g.world.𝓛 g.world.𝓜 g.world.𝓡 (λ s x. x, λ x. x, λ x. x, λ x. x) in
    let il = g.met.I.InLane g.world.𝓛 g.world.𝓜 g.world.𝓡 (λ s x. x, λ x. x, λ x. x, λ x. x) in
    let k = laws g.O.OutLane g.I.InLane ol.same_itself ol.same_later il.same_itself il.same_later in
    let a = c.args.worker.now in
    let b = record a { answer = c.finished-worker.result } in
    attended_turned k a c.push_all.new.worker (λ looks. turned_behind k looks a b c.push_all.new.worker (went_itself k a b refl refl) (c.push_all.ensures.turns looks))

pub returns-then-is_some-2-clause-stops : goal.returns-then-is_some-2-clause-stops
returns-then-is_some-2-clause-stops g c = some_if c.push_all.new.worker.answer c.is_some-2.result c.is_some-2.ensures c.if-is_some-2.true

pub returns-clause-attended : goal.returns-clause-attended
returns-clause-attended g c =
    let ol = g.met.O.OutLane g.world.𝓛 g.world.𝓜 g.world.𝓡 (λ s x. x, λ x. x, λ x. x, λ x. x) in
    let il = g.met.I.InLane g.world.𝓛 g.world.𝓜 g.world.𝓡 (λ s x. x, λ x. x, λ x. x, λ x. x) in
    let k = laws g.O.OutLane g.I.InLane ol.same_itself ol.same_later il.same_itself il.same_later in
    let a = c.args.worker.now in
    let b = record a { answer = c.finished-worker.result } in
    let p = c.push_all.new.worker in
    let none = none_if p.answer c.is_some-2.result c.is_some-2.ensures c.if-is_some-2.false in
    let goes = going k 0 b p (c.push_all.ensures.turns 0) none in
    attended_idle k a (record p { answer = Some answers.Idle })
    (went_again k a p None (Some answers.Idle) p.looks (went_later k a b p None (went_itself k a b refl refl) (went_of k b p (c.push_all.ensures.turns 0) none)))
    goes.open_yet (c.push_all.ensures.tried none) refl
