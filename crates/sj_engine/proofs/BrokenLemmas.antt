-- Bytes that begin with what is no frame.
use Rattle.std.proofs.Common.{◌≡◌, ℕ, true, List, ◌++◌, refl, sym, ap, subst, ◌∙◌}
use Rattle.sj_rules.specs.Frames.{FrameAt}
use Rattle.sj_table.specs.declared.table.Spot.{Spot}
use Rattle.sj_wire.specs.Front.{Front, Cut, Refused, Whole, front_of}
use Rattle.sj_wire.specs.Reads.{IsRefused}
use Rattle.sj_wire.specs.declared.refusal.WireRefusal.{WireRefusal}
use Rattle.sj_wire.specs.declared.refusal.WireRefusal.TheVariants as refusals
use Rattle.sj_wire.proofs.StreamLemmas.{refusal_stays}
use Rattle.sj_engine.specs.Frames.{IsBroken, is_refused}

stays : (x more : List ℕ) (f : Front) → front_of x ≡ f → is_refused f ≡ true → IsBroken (x ++ more)
stays x more Cut is r = absurd cc
stays x more (Refused e) is r = ap is_refused (refusal_stays x more is)
stays x more (Whole f rest) is r = absurd cc

-- they do so whatever comes after them
pub broken_more : (x more y : List ℕ) → y ≡ x ++ more → IsBroken x → IsBroken y
broken_more x more y is r = subst IsBroken (sym is) (stays x more (front_of x) refl r)

-- they have no frame at the front
pub not_broken : (x : List ℕ) (f : FrameAt Spot) (rest : List ℕ) → front_of x ≡ Whole f rest → IsBroken x → ⊥
not_broken x f rest is r =
    let same : is_refused (Whole f rest) ≡ true = ap is_refused (sym is) ∙ r in
    absurd cc

-- a refusal but out of memory says so
pub refused_broken : (e : WireRefusal) (x : List ℕ) → (e ≡ refusals.NoMemory → ⊥) → IsRefused e (front_of x) → IsBroken x
refused_broken refusals.NoMemory x other is = absurd (other refl)
refused_broken refusals.Value x other is = ap is_refused is
refused_broken refusals.Length x other is = ap is_refused is
refused_broken refusals.Version x other is = ap is_refused is
refused_broken refusals.Kind x other is = ap is_refused is
