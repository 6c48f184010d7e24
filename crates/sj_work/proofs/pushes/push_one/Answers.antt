use Rattle.std.proofs.Common.{rules, ◌≡◌, ◌∷◌, Some, length, refl, ap, ◌∙◌, subst}
use Rattle.std.specs.Prelude.{slice_get}
use Rattle.std.proofs.Math.ListN.{set}
use Rattle.std.proofs.lemmas.Option.{slice_get_read}
use Rattle.sj_end.specs.Views.{frame_at}
use Rattle.sj_node.specs.Outs.{waiting_in}
use Rattle.sj_node.specs.Reading.{outs_of}
use Rattle.sj_work.specs.Counts.{OnLane, RoseBy}
use Rattle.sj_work.proofs.CountLemmas.{on_at, on_none, push_stood}
use Rattle.sj_work.proofs.LaneLaws.{laws}
use Rattle.sj_work.proofs.RestLemmas.{outbox_empty, rests_front, rests_itself, takes_later, waits_open}
use Rattle.sj_work.proofs.TurnLemmas.{full_vain, push_refused, turned_on, turned_seen}
use Rattle.sj_work.proofs.WentLemmas.{went_back, went_itself, went_out}
use Rattle.sj_work.proofs.pushes.push_one.Goals as goal

pub returns-then-nothing_waits-clause-turns : goal.returns-then-nothing_waits-clause-turns
returns-then-nothing_waits-clause-turns g c =
    let ol = g.met.O.OutLane g.world.𝓛 g.world.𝓜 g.world.𝓡 (λ s x. x, λ x. x, λ x. x, λ x. x) in
    let il = g.met.I.InLane g.world.𝓛 g.world.𝓜 g.world.𝓡 (λ s x. x, λ x. x, λ x. x, λ x. x) in
    let k = laws g.O.OutLane g.I.InLane ol.same_itself ol.same_later il.same_itself il.same_later in
    turned_on k c.args.worker.now c.args.worker.now (went_itself k c.args.worker.now c.args.worker.now refl refl) c.requires.stop c.requires.open_yet

pub returns-then-nothing_waits-clause-rests : goal.returns-then-nothing_waits-clause-rests
returns-then-nothing_waits-clause-rests g c = rests_itself c.args.worker.now.node c.args.worker.now.node refl

pub returns-then-nothing_waits-clause-tried : goal.returns-then-nothing_waits-clause-tried
returns-then-nothing_waits-clause-tried g c = λ h none waits. absurd (waits (outbox_empty c.args.worker.now.node c.args.to (c.nothing_waits.ensures.0 c.if-nothing_waits.true)))

pub returns-then-from-len-clause-turns : goal.returns-then-from-len-clause-turns
returns-then-from-len-clause-turns g c =
    let ol = g.met.O.OutLane g.world.𝓛 g.world.𝓜 g.world.𝓡 (λ s x. x, λ x. x, λ x. x, λ x. x) in
    let il = g.met.I.InLane g.world.𝓛 g.world.𝓜 g.world.𝓡 (λ s x. x, λ x. x, λ x. x, λ x. x) in
    let k = laws g.O.OutLane g.I.InLane ol.same_itself ol.same_later il.same_itself il.same_later in
    turned_on k c.args.worker.now c.args.worker.now (went_itself k c.args.worker.now c.args.worker.now refl refl) c.requires.stop c.requires.open_yet

pub returns-then-from-len-clause-rests : goal.returns-then-from-len-clause-rests
returns-then-from-len-clause-rests g c = rests_itself c.args.worker.now.node c.args.worker.now.node refl

pub returns-then-from-len-clause-tried : goal.returns-then-from-len-clause-tried
returns-then-from-len-clause-tried g c = λ h none waits. on_none g.O.OutLane.vain (RoseBy 1) c.args.worker.now.lanes.outs.items c.args.to (search rules)

pub returns-in-Ok-clause-turns : goal.returns-in-Ok-clause-turns
returns-in-Ok-clause-turns g c =
    let ol = g.met.O.OutLane g.world.𝓛 g.world.𝓜 g.world.𝓡 (λ s x. x, λ x. x, λ x. x, λ x. x) in
    let il = g.met.I.InLane g.world.𝓛 g.world.𝓜 g.world.𝓡 (λ s x. x, λ x. x, λ x. x, λ x. x) in
    let k = laws g.O.OutLane g.I.InLane ol.same_itself ol.same_later il.same_itself il.same_later in
    let w = c.args.worker.now in
    let e : c.from-2.result ≡ c.args.to = search rules in
    let at : slice_get w.lanes.outs.items c.args.to ≡ Some c.index_mut.result.now =
    rw e at (slice_get_read w.lanes.outs.items (length w.lanes.outs.items) c.from-2.result c.index_mut.result.now refl (search rules) c.index_mut.ensures.value) in
    turned_seen k w _ c.finished-worker.result refl c.finished-worker.ensures
    (went_out k w _ c.args.to c.in-Some.frame c.index_mut.result.now c.push.new.self c.take_out.ensures.rest c.in-Some.ensures.some c.take_out.ensures.others at
    (ap (λ n. set w.lanes.outs.items n c.push.new.self) e) refl (record {
      same = c.push.ensures.link;
      told = c.in-Ok.ensures.told;
      faults = c.push.ensures.faults.0;
      vain = rw c.push.ensures.vain (push_stood (k.outward.vain c.index_mut.result.now) c.push.result);
    }))

pub returns-in-Ok-clause-rests : goal.returns-in-Ok-clause-rests
returns-in-Ok-clause-rests g c =
    rests_front c.args.worker.now.node c.take_out.new.self c.args.to (frame_at c.in-Some.frame) _ c.take_out.ensures.rest c.in-Some.ensures.some c.take_out.ensures.others

pub returns-in-Err-clause-turns : goal.returns-in-Err-clause-turns
returns-in-Err-clause-turns g c =
    let ol = g.met.O.OutLane g.world.𝓛 g.world.𝓜 g.world.𝓡 (λ s x. x, λ x. x, λ x. x, λ x. x) in
    let il = g.met.I.InLane g.world.𝓛 g.world.𝓜 g.world.𝓡 (λ s x. x, λ x. x, λ x. x, λ x. x) in
    let k = laws g.O.OutLane g.I.InLane ol.same_itself ol.same_later il.same_itself il.same_later in
    let w = c.args.worker.now in
    let e : c.from-2.result ≡ c.args.to = search rules in
    let at : slice_get w.lanes.outs.items c.args.to ≡ Some c.index_mut.result.now =
    rw e at (slice_get_read w.lanes.outs.items (length w.lanes.outs.items) c.from-2.result c.index_mut.result.now refl (search rules) c.index_mut.ensures.value) in
    let same : c.in-Err.frame ≡ c.in-Some.frame = c.in-Err.ensures.back in
    push_refused k w _ c.args.to c.index_mut.result.now c.push.new.self c.in-Err.frame c.in-Err.refusal
    (waits_open c.put_back.new.self c.args.to (frame_at c.in-Err.frame) _ c.put_back.ensures.own)
    (went_back k w _ c.take_out.new.self c.args.to c.in-Some.frame c.index_mut.result.now c.push.new.self c.take_out.ensures.rest c.put_back.ensures.rest c.in-Some.ensures.some c.take_out.ensures.others
    (c.put_back.ensures.own ∙ ap (λ f. frame_at f ∷ waiting_in (outs_of c.take_out.new.self) c.args.to) same) c.put_back.ensures.others at
    (ap (λ n. set w.lanes.outs.items n c.push.new.self) e) refl (record {
      same = c.push.ensures.link;
      told = c.in-Err.ensures.told;
      faults = c.push.ensures.faults.0;
      vain = rw c.push.ensures.vain (push_stood (k.outward.vain c.index_mut.result.now) c.push.result);
    }))
    c.refused-worker.ensures c.in-Err.ensures.faults.1 at (ap (λ n. set w.lanes.outs.items n c.push.new.self) e)

pub returns-in-Err-clause-rests : goal.returns-in-Err-clause-rests
returns-in-Err-clause-rests g c =
    rests_front c.args.worker.now.node c.put_back.new.self c.args.to (frame_at c.in-Some.frame) _ (takes_later _ _ _ c.take_out.ensures.rest c.put_back.ensures.rest) c.in-Some.ensures.some
    (λ q h. c.put_back.ensures.others q h ∙ c.take_out.ensures.others q h)

pub returns-in-Err-clause-tried : goal.returns-in-Err-clause-tried
returns-in-Err-clause-tried g c = λ h none waits.
    let ol = g.met.O.OutLane g.world.𝓛 g.world.𝓜 g.world.𝓡 (λ s x. x, λ x. x, λ x. x, λ x. x) in
    let il = g.met.I.InLane g.world.𝓛 g.world.𝓜 g.world.𝓡 (λ s x. x, λ x. x, λ x. x, λ x. x) in
    let k = laws g.O.OutLane g.I.InLane ol.same_itself ol.same_later il.same_itself il.same_later in
    let w = c.args.worker.now in
    let e : c.from-2.result ≡ c.args.to = search rules in
    let at = slice_get_read w.lanes.outs.items (length w.lanes.outs.items) c.from-2.result c.index_mut.result.now refl (search rules) c.index_mut.ensures.value in
    subst (λ n. OnLane k.outward.vain (RoseBy 1) (slice_get w.lanes.outs.items n) (slice_get (set w.lanes.outs.items c.from-2.result c.push.new.self) n)) e
    (on_at k.outward.vain (RoseBy 1) w.lanes.outs.items c.from-2.result c.index_mut.result.now c.push.new.self at
    (full_vain _ _ c.in-Err.frame c.in-Err.refusal c.refused-worker.result c.refused-worker.ensures none c.in-Err.ensures.vain))
