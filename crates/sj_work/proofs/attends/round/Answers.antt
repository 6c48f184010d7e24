use Rattle.sj_work.proofs.AttendLemmas.{attended_behind, attended_piece, looked_round, piece_over}
use Rattle.sj_work.proofs.LaneLaws.{laws}
use Rattle.sj_work.proofs.PieceLemmas.{piece_went}
use Rattle.sj_work.proofs.StopLemmas.{none_if, some_if}
use Rattle.sj_work.proofs.attends.round.Goals as goal

pub returns-then-is_some-clause-attended : goal.returns-then-is_some-clause-attended
returns-then-is_some-clause-attended g c =
    let ol = g.met.O.OutLane g.world.𝓛 g.world.𝓜 g.world.𝓡 (λ s x. x, λ x. x, λ x. x, λ x. x) in
    let il = g.met.I.InLane g.world.𝓛 g.world.𝓜 g.world.𝓡 (λ s x. x, λ x. x, λ x. x, λ x. x) in
    let k = laws g.O.OutLane g.I.InLane ol.same_itself ol.same_later il.same_itself il.same_later in
    attended_piece k c.args.worker.now c.take_all.new.worker c.take_all.ensures.pieces c.take_all.ensures.other

pub returns-then-is_some-clause-looked : goal.returns-then-is_some-clause-looked
returns-then-is_some-clause-looked g c = λ may.
    let ol = g.met.O.OutLane g.world.𝓛 g.world.𝓜 g.world.𝓡 (λ s x. x, λ x. x, λ x. x, λ x. x) in
    let il = g.met.I.InLane g.world.𝓛 g.world.𝓜 g.world.𝓡 (λ s x. x, λ x. x, λ x. x, λ x. x) in
    let k = laws g.O.OutLane g.I.InLane ol.same_itself ol.same_later il.same_itself il.same_later in
    absurd (piece_over k c.args.worker.now c.take_all.new.worker c.take_all.ensures.pieces c.take_all.ensures.other may)

pub returns-then-is_some-clause-stops : goal.returns-then-is_some-clause-stops
returns-then-is_some-clause-stops g c = some_if c.take_all.new.worker.answer c.is_some.result c.is_some.ensures c.if-is_some.true

pub push_on-requires-after_bounds : goal.push_on-requires-after_bounds
push_on-requires-after_bounds g c κs within = none_if c.take_all.new.worker.answer c.is_some.result c.is_some.ensures c.if-is_some.false

pub returns-clause-attended : goal.returns-clause-attended
returns-clause-attended g c =
    let ol = g.met.O.OutLane g.world.𝓛 g.world.𝓜 g.world.𝓡 (λ s x. x, λ x. x, λ x. x, λ x. x) in
    let il = g.met.I.InLane g.world.𝓛 g.world.𝓜 g.world.𝓡 (λ s x. x, λ x. x, λ x. x, λ x. x) in
    let k = laws g.O.OutLane g.I.InLane ol.same_itself ol.same_later il.same_itself il.same_later in
    let none = none_if c.take_all.new.worker.answer c.is_some.result c.is_some.ensures c.if-is_some.false in
    attended_behind k c.args.worker.now c.take_all.new.worker c.push_on.new.worker (piece_went k 0 c.args.worker.now c.take_all.new.worker (c.take_all.ensures.pieces 0) none) c.push_on.ensures.attended

pub returns-clause-looked : goal.returns-clause-looked
returns-clause-looked g c =
    let ol = g.met.O.OutLane g.world.𝓛 g.world.𝓜 g.world.𝓡 (λ s x. x, λ x. x, λ x. x, λ x. x) in
    let il = g.met.I.InLane g.world.𝓛 g.world.𝓜 g.world.𝓡 (λ s x. x, λ x. x, λ x. x, λ x. x) in
    let k = laws g.O.OutLane g.I.InLane ol.same_itself ol.same_later il.same_itself il.same_later in
    let none = none_if c.take_all.new.worker.answer c.is_some.result c.is_some.ensures c.if-is_some.false in
    looked_round k c.args.worker.now c.take_all.new.worker c.push_on.new.worker (piece_went k 0 c.args.worker.now c.take_all.new.worker (c.take_all.ensures.pieces 0) none)
    (c.take_all.ensures.vain none) c.push_on.ensures.attended
