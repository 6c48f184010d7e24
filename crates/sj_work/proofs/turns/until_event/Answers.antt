use Rattle.std.proofs.Common.{rules, ◌<◌, ◌≤◌, sym, ◌∙◌}
use Rattle.sj_work.proofs.LaneLaws.{laws}
use Rattle.sj_work.proofs.StopLemmas.{none_if, true_not_false}
use Rattle.sj_work.proofs.VainLemmas.{below_looks, enough_looks, fewer_left, idle_before, not_beyond, one_more, wait_idle, wait_limit, wait_more, wait_turns, waited_none}
use Rattle.sj_work.proofs.turns.until_event.Goals as goal
use Rattle.sj_work.proofs.turns.until_event.Goals.{then-worker-looks, else-worker-looks+then-not-idle_now, else-worker-looks-2-via-then-worker-looks-2+else-not-idle_now-2, else-worker-looks-2-via-else-worker-looks-2}

pub loop-worker-init : goal.loop-worker-init
loop-worker-init g c =
    let ol = g.met.O.OutLane g.world.𝓛 g.world.𝓜 g.world.𝓡 (λ s x. x, λ x. x, λ x. x, λ x. x) in
    let il = g.met.I.InLane g.world.𝓛 g.world.𝓜 g.world.𝓡 (λ s x. x, λ x. x, λ x. x, λ x. x) in
    let k = laws g.O.OutLane g.I.InLane ol.same_itself ol.same_later il.same_itself il.same_later in
    waited_none k c.args.looks c.args.worker.now c.requires

pub returns-then-event-clause-turned : goal.returns-then-event-clause-turned
returns-then-event-clause-turned g c =
    let ol = g.met.O.OutLane g.world.𝓛 g.world.𝓜 g.world.𝓡 (λ s x. x, λ x. x, λ x. x, λ x. x) in
    let il = g.met.I.InLane g.world.𝓛 g.world.𝓜 g.world.𝓡 (λ s x. x, λ x. x, λ x. x, λ x. x) in
    let k = laws g.O.OutLane g.I.InLane ol.same_itself ol.same_later il.same_itself il.same_later in
    wait_turns k c.args.looks c.args.worker.now c.loop-worker.worker c.loop-worker.invariant c.turn-event.new.worker c.turn-event.ensures.turns c.args.looks

pub returns-then-not-idle_now-2-clause-turned : goal.returns-then-not-idle_now-2-clause-turned
returns-then-not-idle_now-2-clause-turned g c =
    let ol = g.met.O.OutLane g.world.𝓛 g.world.𝓜 g.world.𝓡 (λ s x. x, λ x. x, λ x. x, λ x. x) in
    let il = g.met.I.InLane g.world.𝓛 g.world.𝓜 g.world.𝓡 (λ s x. x, λ x. x, λ x. x, λ x. x) in
    let k = laws g.O.OutLane g.I.InLane ol.same_itself ol.same_later il.same_itself il.same_later in
    let none = none_if c.turn-event.new.worker.answer c.is_some-stops.result c.is_some-stops.ensures c.if-stops.false in
    wait_limit k c.args.looks c.args.worker.now c.loop-worker.worker c.loop-worker.invariant c.turn-event.new.worker c.turn-event.ensures.turns none (c.turn-event.ensures.vain c.if-event.false none)
    c.saturating_add-worker.result
    (enough_looks c.loop-worker.worker.looks c.turn-event.new.worker.looks c.saturating_add-worker.result c.args.looks 4294967295 c.turn-event.ensures.looks c.saturating_add-worker.ensures c.if-worker-looks-2.true)
    (λ h. true_not_false (sym (c.idle_now-then-worker-looks-2.ensures.1 h) ∙ c.if-not-idle_now-2.true))

pub loop-worker-smaller : goal.loop-worker-smaller
loop-worker-smaller g c =
    let ol = g.met.O.OutLane g.world.𝓛 g.world.𝓜 g.world.𝓡 (λ s x. x, λ x. x, λ x. x, λ x. x) in
    let il = g.met.I.InLane g.world.𝓛 g.world.𝓜 g.world.𝓡 (λ s x. x, λ x. x, λ x. x, λ x. x) in
    let k = laws g.O.OutLane g.I.InLane ol.same_itself ol.same_later il.same_itself il.same_later in
    let none = none_if c.turn-event.new.worker.answer c.is_some-stops.result c.is_some-stops.ensures c.if-stops.false in
    let within : c.args.looks ≤ 4294967295 = search rules in
    let lt : c.loop-worker.worker.looks < c.args.looks = elim c.else-worker-looks-2.branch [
      | else-worker-looks-2-via-then-worker-looks-2+else-not-idle_now-2 w ↦ elim c.if-worker-looks.branch [
        | then-worker-looks v ↦ v.if-worker-looks.true
        | else-worker-looks+then-not-idle_now v ↦ absurd (true_not_false (sym (v.idle_now.ensures.1 (idle_before c.loop-worker.worker.node c.turn-event.new.worker.node (c.turn-event.ensures.vain c.if-event.false none).rests
            (w.idle_now-then-worker-looks-2.ensures.0 w.if-not-idle_now-2.false))) ∙ v.if-not-idle_now.true))
      ]
      | else-worker-looks-2-via-else-worker-looks-2 w ↦
          below_looks c.loop-worker.worker.looks c.turn-event.new.worker.looks c.saturating_add-worker.result c.args.looks 4294967295 c.turn-event.ensures.looks c.saturating_add-worker.ensures within w.if-worker-looks-2.false
    ] in
    let more = one_more c.loop-worker.worker.looks c.turn-event.new.worker.looks c.saturating_add-worker.result c.args.looks 4294967295 c.turn-event.ensures.looks c.saturating_add-worker.ensures within lt in
    fewer_left c.loop-worker.worker.looks c.saturating_add-worker.result c.args.looks more lt

pub loop-worker-preserved : goal.loop-worker-preserved
loop-worker-preserved g c =
    let ol = g.met.O.OutLane g.world.𝓛 g.world.𝓜 g.world.𝓡 (λ s x. x, λ x. x, λ x. x, λ x. x) in
    let il = g.met.I.InLane g.world.𝓛 g.world.𝓜 g.world.𝓡 (λ s x. x, λ x. x, λ x. x, λ x. x) in
    let k = laws g.O.OutLane g.I.InLane ol.same_itself ol.same_later il.same_itself il.same_later in
    let none = none_if c.turn-event.new.worker.answer c.is_some-stops.result c.is_some-stops.ensures c.if-stops.false in
    let within : c.args.looks ≤ 4294967295 = search rules in
    let lt : c.loop-worker.worker.looks < c.args.looks = elim c.else-worker-looks-2.branch [
      | else-worker-looks-2-via-then-worker-looks-2+else-not-idle_now-2 w ↦ elim c.if-worker-looks.branch [
        | then-worker-looks v ↦ v.if-worker-looks.true
        | else-worker-looks+then-not-idle_now v ↦ absurd (true_not_false (sym (v.idle_now.ensures.1 (idle_before c.loop-worker.worker.node c.turn-event.new.worker.node (c.turn-event.ensures.vain c.if-event.false none).rests
            (w.idle_now-then-worker-looks-2.ensures.0 w.if-not-idle_now-2.false))) ∙ v.if-not-idle_now.true))
      ]
      | else-worker-looks-2-via-else-worker-looks-2 w ↦
          below_looks c.loop-worker.worker.looks c.turn-event.new.worker.looks c.saturating_add-worker.result c.args.looks 4294967295 c.turn-event.ensures.looks c.saturating_add-worker.ensures within w.if-worker-looks-2.false
    ] in
    let more = one_more c.loop-worker.worker.looks c.turn-event.new.worker.looks c.saturating_add-worker.result c.args.looks 4294967295 c.turn-event.ensures.looks c.saturating_add-worker.ensures within lt in
    wait_more k c.args.looks c.args.worker.now c.loop-worker.worker c.loop-worker.invariant c.turn-event.new.worker c.turn-event.ensures.turns none (c.turn-event.ensures.vain c.if-event.false none)
    c.saturating_add-worker.result more (not_beyond c.loop-worker.worker.looks c.saturating_add-worker.result c.args.looks more lt)

pub returns-clause-turned : goal.returns-clause-turned
returns-clause-turned g c =
    let ol = g.met.O.OutLane g.world.𝓛 g.world.𝓜 g.world.𝓡 (λ s x. x, λ x. x, λ x. x, λ x. x) in
    let il = g.met.I.InLane g.world.𝓛 g.world.𝓜 g.world.𝓡 (λ s x. x, λ x. x, λ x. x, λ x. x) in
    let k = laws g.O.OutLane g.I.InLane ol.same_itself ol.same_later il.same_itself il.same_later in
    wait_idle k c.args.looks c.args.worker.now c.loop-worker.worker c.loop-worker.invariant c.if-worker-looks.false (c.idle_now.ensures.0 c.if-not-idle_now.false)
