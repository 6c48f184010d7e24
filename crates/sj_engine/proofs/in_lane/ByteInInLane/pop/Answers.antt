use Rattle.std.proofs.Common.{◌≡◌, [], ◌∷◌, take, drop, ap, sym, subst, ◌∙◌, arith, Some, ℕ, List}
use Rattle.std.proofs.lemmas.List.{map-append}
use Rattle.sj_lang.specs.Place.{done}
use Rattle.sj_rules.specs.Frames.{FrameAt}
use Rattle.sj_rules.specs.Mapped.{frame_with}
use Rattle.sj_table.specs.declared.table.Spot.{Spot}
use Rattle.sj_end.specs.Views.{frame_at}
use Rattle.sj_wire.specs.Front.{front_of, Whole}
use Rattle.sj_engine.specs.Frames.{IsBroken, UsesOne, frames_in}
use Rattle.sj_engine.specs.Lanes.{as_told}
use Rattle.sj_engine.proofs.BrokenLemmas.{not_broken, refused_broken}
use Rattle.sj_engine.specs.declared.in_lane.ByteIn.{ByteIn}
use Rattle.sj_engine.proofs.in_lane.ByteInInLane.pop.Goals as goal

-- the frame that came is used up
uses : (i : ByteIn) (bytes : List ℕ) (size : ℕ) (f : FrameAt Spot) (rest : List ℕ) → bytes ≡ i.bytes.items → ((g : FrameAt Spot) (r : List ℕ) → front_of (drop i.used bytes) ≡ Whole g r → UsesOne bytes i.used size g r)
    → front_of i.decoder ≡ Whole f rest → UsesOne i.bytes.items i.used size f rest
uses i bytes size f rest same sized is =
    subst (λ (b : List ℕ). UsesOne b i.used size f rest) same (sized f rest (ap (λ (b : List ℕ). front_of (drop i.used b)) same ∙ ap front_of (sym i.left) ∙ is))

pub overflow_add-self : goal.overflow_add-self
overflow_add-self c =
    let old = c.args.self.now in
    let u = uses old c.deref.result.now c.front_size-size.result (frame_at c.in-Ok-Some.frame) c.next.new.self c.deref.ensures.value c.front_size-size.ensures (rw c.in-Ok-Some.field-0-is at c.in-Ok-Some.ensures.frame) in
    let w = u.within in
    let k = old.bytes.ok in
    let s = old.bytes.small in
    omega (arith, w, k.0, k.1, s)

pub invariant_of-self : goal.invariant_of-self
invariant_of-self c =
    let old = c.args.self.now in
    let u = uses old c.deref.result.now c.front_size-size.result (frame_at c.in-Ok-Some.frame) c.next.new.self c.deref.ensures.value c.front_size-size.ensures (rw c.in-Ok-Some.field-0-is at c.in-Ok-Some.ensures.frame) in
    let w = u.within in
    let k = old.bytes.ok in
    let front : front_of old.decoder ≡ Whole (frame_at c.in-Ok-Some.frame) c.next.new.self = rw c.in-Ok-Some.field-0-is at c.in-Ok-Some.ensures.frame in
    record {
      within = omega (arith, w, k);
      left = u.left;
      broken = λ some. absurd (not_broken old.decoder (frame_at c.in-Ok-Some.frame) c.next.new.self front (old.broken some));
      whole = u.whole;
      spelt = u.spelt;
    }

pub returns-in-Ok-Some-clause-told : goal.returns-in-Ok-Some-clause-told
returns-in-Ok-Some-clause-told c =
    let old = c.args.self.now in
    let u = uses old c.deref.result.now c.front_size-size.result (frame_at c.in-Ok-Some.frame) c.next.new.self c.deref.ensures.value c.front_size-size.ensures (rw c.in-Ok-Some.field-0-is at c.in-Ok-Some.ensures.frame) in
    ap Some (ap as_told u.frames ∙ map-append (frame_with (λ s. done)) (frames_in (take old.used old.bytes.items)) (frame_at c.in-Ok-Some.frame ∷ []))

pub invariant_of-self-in-Err : goal.invariant_of-self-in-Err
invariant_of-self-in-Err c =
    let old = c.args.self.now in
    record {
      within = old.within;
      left = c.in-Err.ensures.err ∙ old.left;
      broken = λ some. subst IsBroken (sym c.in-Err.ensures.err) (refused_broken c.in-Err.refusal old.decoder (c.lacks_memory.ensures c.if-lacks_memory.false) c.in-Err.ensures.refused);
      whole = old.whole;
      spelt = old.spelt;
    }
