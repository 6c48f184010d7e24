use Rattle.std.proofs.Common.{rules, ◌≡◌, None, Some, length, refl, ap, subst}
use Rattle.std.specs.Prelude.{slice_get}
use Rattle.std.proofs.Math.ListN.{set}
use Rattle.std.proofs.lemmas.Option.{slice_get_read}
use Rattle.sj_work.specs.declared.worker.Stop.TheVariants as stops
use Rattle.sj_work.specs.Counts.{OnLane, RoseBy}
use Rattle.sj_work.proofs.CountLemmas.{on_at, on_none, pop_stood, rose_raised}
use Rattle.sj_work.proofs.LaneLaws.{laws}
use Rattle.sj_work.proofs.PieceLemmas.{came_rises, frame_before, frame_came, frame_other, piece_off, piece_on, pop_fault}
use Rattle.sj_work.proofs.WentLemmas.{went_itself, went_vain}
use Rattle.sj_work.proofs.pops.look.Goals as goal

pub returns-then-clock-ge-CLOCK_END-clause-pieces : goal.returns-then-clock-ge-CLOCK_END-clause-pieces
returns-then-clock-ge-CLOCK_END-clause-pieces g c =
    let ol = g.met.O.OutLane g.world.𝓛 g.world.𝓜 g.world.𝓡 (λ s x. x, λ x. x, λ x. x, λ x. x) in
    let il = g.met.I.InLane g.world.𝓛 g.world.𝓜 g.world.𝓡 (λ s x. x, λ x. x, λ x. x, λ x. x) in
    let k = laws g.O.OutLane g.I.InLane ol.same_itself ol.same_later il.same_itself il.same_later in
    λ looks. piece_off k c.args.worker.now _ None stops.ClockEnd looks refl (went_itself k c.args.worker.now _ refl refl) tt (search rules)

pub returns-then-from-len-clause-pieces : goal.returns-then-from-len-clause-pieces
returns-then-from-len-clause-pieces g c =
    let ol = g.met.O.OutLane g.world.𝓛 g.world.𝓜 g.world.𝓡 (λ s x. x, λ x. x, λ x. x, λ x. x) in
    let il = g.met.I.InLane g.world.𝓛 g.world.𝓜 g.world.𝓡 (λ s x. x, λ x. x, λ x. x, λ x. x) in
    let k = laws g.O.OutLane g.I.InLane ol.same_itself ol.same_later il.same_itself il.same_later in
    piece_on k c.args.worker.now c.args.worker.now (went_itself k c.args.worker.now c.args.worker.now refl refl) c.requires.stop

pub returns-then-from-len-clause-vain : goal.returns-then-from-len-clause-vain
returns-then-from-len-clause-vain g c = λ h none. on_none g.I.InLane.vain (RoseBy 1) c.args.worker.now.lanes.ins.items c.args.from (search rules)

pub returns-in-Ok-None-clause-pieces : goal.returns-in-Ok-None-clause-pieces
returns-in-Ok-None-clause-pieces g c =
    let ol = g.met.O.OutLane g.world.𝓛 g.world.𝓜 g.world.𝓡 (λ s x. x, λ x. x, λ x. x, λ x. x) in
    let il = g.met.I.InLane g.world.𝓛 g.world.𝓜 g.world.𝓡 (λ s x. x, λ x. x, λ x. x, λ x. x) in
    let k = laws g.O.OutLane g.I.InLane ol.same_itself ol.same_later il.same_itself il.same_later in
    let w = c.args.worker.now in
    let e : c.from-2.result ≡ c.args.from = search rules in
    let at = slice_get_read w.lanes.ins.items (length w.lanes.ins.items) c.from-2.result c.index_mut-lane.result.now refl (search rules) c.index_mut-lane.ensures.value in
    piece_on k w _ (went_vain k w _ c.from-2.result c.index_mut-lane.result.now c.pop.new.self refl refl at refl (record {
      same = c.pop.ensures.link;
      told = rw c.in-Ok-None.field-0-is at c.in-Ok-None.ensures.told;
      faults = c.pop.ensures.faults.0;
      vain = rw c.pop.ensures.vain (pop_stood (k.inward.vain c.index_mut-lane.result.now) c.pop.result);
    }) (rw e c.requires.party) (search rules)) c.requires.stop

pub returns-in-Ok-None-clause-vain : goal.returns-in-Ok-None-clause-vain
returns-in-Ok-None-clause-vain g c = λ h none.
    let ol = g.met.O.OutLane g.world.𝓛 g.world.𝓜 g.world.𝓡 (λ s x. x, λ x. x, λ x. x, λ x. x) in
    let il = g.met.I.InLane g.world.𝓛 g.world.𝓜 g.world.𝓡 (λ s x. x, λ x. x, λ x. x, λ x. x) in
    let k = laws g.O.OutLane g.I.InLane ol.same_itself ol.same_later il.same_itself il.same_later in
    let w = c.args.worker.now in
    let e : c.from-2.result ≡ c.args.from = search rules in
    let at = slice_get_read w.lanes.ins.items (length w.lanes.ins.items) c.from-2.result c.index_mut-lane.result.now refl (search rules) c.index_mut-lane.ensures.value in
    subst (λ n. OnLane k.inward.vain (RoseBy 1) (slice_get w.lanes.ins.items n) (slice_get (set w.lanes.ins.items c.from-2.result c.pop.new.self) n)) e
    (on_at k.inward.vain (RoseBy 1) w.lanes.ins.items c.from-2.result c.index_mut-lane.result.now c.pop.new.self at (rose_raised _ _ (rw c.in-Ok-None.field-0-is at c.in-Ok-None.ensures.vain)))

pub returns-in-Ok-Some-clause-pieces : goal.returns-in-Ok-Some-clause-pieces
returns-in-Ok-Some-clause-pieces g c =
    let ol = g.met.O.OutLane g.world.𝓛 g.world.𝓜 g.world.𝓡 (λ s x. x, λ x. x, λ x. x, λ x. x) in
    let il = g.met.I.InLane g.world.𝓛 g.world.𝓜 g.world.𝓡 (λ s x. x, λ x. x, λ x. x, λ x. x) in
    let k = laws g.O.OutLane g.I.InLane ol.same_itself ol.same_later il.same_itself il.same_later in
    let w = c.args.worker.now in
    let e : c.from-2.result ≡ c.args.from = search rules in
    let at : slice_get w.lanes.ins.items c.args.from ≡ Some c.index_mut-lane.result.now =
    rw e at (slice_get_read w.lanes.ins.items (length w.lanes.ins.items) c.from-2.result c.index_mut-lane.result.now refl (search rules) c.index_mut-lane.ensures.value) in
    frame_came k w _ c.args.from c.in-Ok-Some.frame c.index_mut-lane.result.now c.pop.new.self c.deliver-worker.result c.deliver-worker.ensures refl refl at
    (ap (λ n. set w.lanes.ins.items n c.pop.new.self) e) (record {
      same = c.pop.ensures.link;
      told = rw c.in-Ok-Some.field-0-is at c.in-Ok-Some.ensures.told;
      faults = c.pop.ensures.faults.0;
      vain = rw c.pop.ensures.vain (pop_stood (k.inward.vain c.index_mut-lane.result.now) c.pop.result);
    }) c.requires.party (search rules)

pub returns-in-Ok-Some-clause-event : goal.returns-in-Ok-Some-clause-event
returns-in-Ok-Some-clause-event g c = λ h none. came_rises c.args.worker.now.node c.deliver-worker.new.node c.args.from c.in-Ok-Some.frame c.deliver-worker.result c.deliver-worker.ensures none

pub returns-in-Err-Fault-clause-pieces : goal.returns-in-Err-Fault-clause-pieces
returns-in-Err-Fault-clause-pieces g c =
    let ol = g.met.O.OutLane g.world.𝓛 g.world.𝓜 g.world.𝓡 (λ s x. x, λ x. x, λ x. x, λ x. x) in
    let il = g.met.I.InLane g.world.𝓛 g.world.𝓜 g.world.𝓡 (λ s x. x, λ x. x, λ x. x, λ x. x) in
    let k = laws g.O.OutLane g.I.InLane ol.same_itself ol.same_later il.same_itself il.same_later in
    let w = c.args.worker.now in
    let e : c.from-2.result ≡ c.args.from = search rules in
    let at = slice_get_read w.lanes.ins.items (length w.lanes.ins.items) c.from-2.result c.index_mut-lane.result.now refl (search rules) c.index_mut-lane.ensures.value in
    pop_fault k w _ c.from-2.result c.index_mut-lane.result.now c.pop.new.self
    (went_vain k w _ c.from-2.result c.index_mut-lane.result.now c.pop.new.self refl refl at refl (record {
      same = c.pop.ensures.link;
      told = c.in-Err-Fault.ensures.told;
      faults = c.pop.ensures.faults.0;
      vain = rw c.pop.ensures.vain (pop_stood (k.inward.vain c.index_mut-lane.result.now) c.pop.result);
    }) (rw e c.requires.party) (search rules)) refl at refl (rw c.in-Err-Fault.field-0-is at c.in-Err-Fault.ensures.faults).1

pub returns-in-Err-NoMemory-clause-pieces : goal.returns-in-Err-NoMemory-clause-pieces
returns-in-Err-NoMemory-clause-pieces g c =
    let ol = g.met.O.OutLane g.world.𝓛 g.world.𝓜 g.world.𝓡 (λ s x. x, λ x. x, λ x. x, λ x. x) in
    let il = g.met.I.InLane g.world.𝓛 g.world.𝓜 g.world.𝓡 (λ s x. x, λ x. x, λ x. x, λ x. x) in
    let k = laws g.O.OutLane g.I.InLane ol.same_itself ol.same_later il.same_itself il.same_later in
    let w = c.args.worker.now in
    let e : c.from-2.result ≡ c.args.from = search rules in
    let at = slice_get_read w.lanes.ins.items (length w.lanes.ins.items) c.from-2.result c.index_mut-lane.result.now refl (search rules) c.index_mut-lane.ensures.value in
    λ looks. piece_off k w _ None stops.NoMemory looks refl
    (went_vain k w _ c.from-2.result c.index_mut-lane.result.now c.pop.new.self refl refl at refl (record {
      same = c.pop.ensures.link;
      told = c.in-Err-NoMemory.ensures.told;
      faults = c.pop.ensures.faults.0;
      vain = rw c.pop.ensures.vain (pop_stood (k.inward.vain c.index_mut-lane.result.now) c.pop.result);
    }) (rw e c.requires.party) (search rules)) tt tt

pub returns-in-Ok-Some-clause-other : goal.returns-in-Ok-Some-clause-other
returns-in-Ok-Some-clause-other g c = frame_other c.args.worker.now.node c.deliver-worker.new.node c.args.from c.in-Ok-Some.frame c.deliver-worker.result c.deliver-worker.ensures

pub returns-in-Ok-Some-clause-before : goal.returns-in-Ok-Some-clause-before
returns-in-Ok-Some-clause-before g c = frame_before c.args.worker.now.node c.deliver-worker.new.node c.args.from c.in-Ok-Some.frame c.deliver-worker.result c.deliver-worker.ensures
