use Rattle.std.proofs.Common.{None, refl, subst}
use Rattle.sj_node.specs.declared.node.Node.{Node}
use Rattle.sj_node.specs.Reading.{IsFinished}
use Rattle.sj_work.proofs.LaneLaws.{laws}
use Rattle.sj_work.proofs.PieceLemmas.{piece_went, stop_there, turned_with, unsettled}
use Rattle.sj_work.proofs.StopLemmas.{none_if}
use Rattle.sj_work.proofs.TurnLemmas.{turned_seen}
use Rattle.sj_work.proofs.WentLemmas.{went_again}
use Rattle.sj_work.proofs.pops.look_one.Goals as goal

pub returns-then-not-look-clause-turns : goal.returns-then-not-look-clause-turns
returns-then-not-look-clause-turns g c = λ looks.
    let ol = g.met.O.OutLane g.world.𝓛 g.world.𝓜 g.world.𝓡 (λ s x. x, λ x. x, λ x. x, λ x. x) in
    let il = g.met.I.InLane g.world.𝓛 g.world.𝓜 g.world.𝓡 (λ s x. x, λ x. x, λ x. x, λ x. x) in
    let k = laws g.O.OutLane g.I.InLane ol.same_itself ol.same_later il.same_itself il.same_later in
    let b = c.look.new.worker in
    turned_with k looks c.args.worker.now b (c.look.ensures.pieces looks)
    (unsettled k b c.look.ensures.other (λ f. c.requires.goes.open_yet (subst (λ (n : Node). IsFinished n) (c.look.ensures.rests c.if-not-look.true) f)))

pub returns-then-is_some-clause-turns : goal.returns-then-is_some-clause-turns
returns-then-is_some-clause-turns g c = λ looks.
    let ol = g.met.O.OutLane g.world.𝓛 g.world.𝓜 g.world.𝓡 (λ s x. x, λ x. x, λ x. x, λ x. x) in
    let il = g.met.I.InLane g.world.𝓛 g.world.𝓜 g.world.𝓡 (λ s x. x, λ x. x, λ x. x, λ x. x) in
    let k = laws g.O.OutLane g.I.InLane ol.same_itself ol.same_later il.same_itself il.same_later in
    let b = c.look.new.worker in
    turned_with k looks c.args.worker.now b (c.look.ensures.pieces looks)
    (unsettled k b c.look.ensures.other (λ f. c.requires.goes.open_yet (c.look.ensures.before (stop_there b.answer c.is_some.result c.is_some.ensures c.if-is_some.true) f)))

pub returns-clause-turns : goal.returns-clause-turns
returns-clause-turns g c =
    let ol = g.met.O.OutLane g.world.𝓛 g.world.𝓜 g.world.𝓡 (λ s x. x, λ x. x, λ x. x, λ x. x) in
    let il = g.met.I.InLane g.world.𝓛 g.world.𝓜 g.world.𝓡 (λ s x. x, λ x. x, λ x. x, λ x. x) in
    let k = laws g.O.OutLane g.I.InLane ol.same_itself ol.same_later il.same_itself il.same_later in
    let a = c.args.worker.now in
    let b = c.look.new.worker in
    let went = piece_went k 0 a b (c.look.ensures.pieces 0) (none_if b.answer c.is_some.result c.is_some.ensures c.if-is_some.false) in
    turned_seen k a _ c.finished-worker.result refl c.finished-worker.ensures (went_again k a b None c.finished-worker.result b.looks went)

pub returns-clause-event : goal.returns-clause-event
returns-clause-event g c = λ h none. c.look.ensures.event c.if-not-look.false (none_if c.look.new.worker.answer c.is_some.result c.is_some.ensures c.if-is_some.false)
