use Rattle.std.proofs.Common.{rules, None, refl, ◌∙◌}
use Rattle.sj_work.specs.declared.worker.Stop.TheVariants as stops
use Rattle.sj_work.proofs.HaltLemmas.{free_of, halted_by, stop_same}
use Rattle.sj_work.proofs.LaneLaws.{laws}
use Rattle.sj_work.proofs.NodeLemmas.{act_stepped}
use Rattle.sj_work.proofs.RestLemmas.{rests_itself, rests_stays}
use Rattle.sj_work.proofs.TurnLemmas.{act_refused, turned_off, turned_seen}
use Rattle.sj_work.proofs.WentLemmas.{went_acted, went_itself}
use Rattle.sj_work.proofs.acts.act.Goals as goal

pub returns-then-clock-ge-CLOCK_END-clause-turns : goal.returns-then-clock-ge-CLOCK_END-clause-turns
returns-then-clock-ge-CLOCK_END-clause-turns g c =
    let ol = g.met.O.OutLane g.world.𝓛 g.world.𝓜 g.world.𝓡 (λ s x. x, λ x. x, λ x. x, λ x. x) in
    let il = g.met.I.InLane g.world.𝓛 g.world.𝓜 g.world.𝓡 (λ s x. x, λ x. x, λ x. x, λ x. x) in
    let k = laws g.O.OutLane g.I.InLane ol.same_itself ol.same_later il.same_itself il.same_later in
    λ looks. turned_off k c.args.worker.now _ None stops.ClockEnd looks refl (λ e. cc e) c.requires.open_yet (went_itself k c.args.worker.now _ refl refl) tt (search rules)

pub returns-then-clock-ge-CLOCK_END-clause-rests : goal.returns-then-clock-ge-CLOCK_END-clause-rests
returns-then-clock-ge-CLOCK_END-clause-rests g c = λ h. rests_itself c.args.worker.now.node c.args.worker.now.node refl

pub returns-in-Ok-clause-turns : goal.returns-in-Ok-clause-turns
returns-in-Ok-clause-turns g c =
    let ol = g.met.O.OutLane g.world.𝓛 g.world.𝓜 g.world.𝓡 (λ s x. x, λ x. x, λ x. x, λ x. x) in
    let il = g.met.I.InLane g.world.𝓛 g.world.𝓜 g.world.𝓡 (λ s x. x, λ x. x, λ x. x, λ x. x) in
    let k = laws g.O.OutLane g.I.InLane ol.same_itself ol.same_later il.same_itself il.same_later in
    turned_seen k c.args.worker.now _ c.finished-worker.result refl c.finished-worker.ensures (went_acted k c.args.worker.now _ (act_stepped c.args.worker.now.node c.act.new.self c.in-Ok.ensures.ok) refl)

pub returns-in-Ok-clause-event : goal.returns-in-Ok-clause-event
returns-in-Ok-clause-event g c = λ h. (act_stepped c.args.worker.now.node c.act.new.self c.in-Ok.ensures.ok).rises

pub returns-in-Err-clause-turns : goal.returns-in-Err-clause-turns
returns-in-Err-clause-turns g c =
    let ol = g.met.O.OutLane g.world.𝓛 g.world.𝓜 g.world.𝓡 (λ s x. x, λ x. x, λ x. x, λ x. x) in
    let il = g.met.I.InLane g.world.𝓛 g.world.𝓜 g.world.𝓡 (λ s x. x, λ x. x, λ x. x, λ x. x) in
    let k = laws g.O.OutLane g.I.InLane ol.same_itself ol.same_later il.same_itself il.same_later in
    act_refused k c.args.worker.now _ c.in-Err.halt c.refused-worker.result c.requires c.in-Err.ensures.err c.in-Err.ensures.unfit
    (λ e. stop_same c.args.worker.now.node c.act.new.self c.in-Err.ensures.err.node ∙ free_of c.args.worker.now.node c.in-Err.halt c.in-Err.ensures.ended.1 c.in-Err.ensures.at_limit.1 c.in-Err.ensures.waits.1 e)
    c.refused-worker.ensures refl refl

pub returns-in-Err-clause-rests : goal.returns-in-Err-clause-rests
returns-in-Err-clause-rests g c = λ h. rests_stays c.args.worker.now.node c.act.new.self c.in-Err.ensures.err

pub returns-in-Err-clause-halted : goal.returns-in-Err-clause-halted
returns-in-Err-clause-halted g c = λ h none.
    halted_by c.args.worker.now.node c.act.new.self c.in-Err.halt c.refused-worker.result c.in-Err.ensures.err.node c.in-Err.ensures.ended.0 c.in-Err.ensures.at_limit.0 c.in-Err.ensures.waits.0 c.refused-worker.ensures none

pub refused-worker-requires-clause-goes : goal.refused-worker-requires-clause-goes
refused-worker-requires-clause-goes g c = λ e. stop_same c.args.worker.now.node c.act.new.self c.in-Err.ensures.err.node ∙ free_of c.args.worker.now.node c.in-Err.halt c.in-Err.ensures.ended.1 c.in-Err.ensures.at_limit.1 c.in-Err.ensures.waits.1 e
