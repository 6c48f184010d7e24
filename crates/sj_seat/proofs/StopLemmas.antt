-- Why a round answers a stop after which nothing more is done.
use Rattle.std.proofs.Common.{◌≡◌, ◌∙◌, ◌≤◌, Option, Some, None, refl, ap, sym, subst, inl, inr}
use Rattle.std.specs.Prelude.{◌⊎◌, IfSome}
use Rattle.sj_lang.specs.Place.{Place}
use Rattle.sj_node.specs.Node.{clock_of}
use Rattle.sj_rules.specs.Limits.{clock_end}
use Rattle.sj_rules.specs.Work.{LostAt}
use Rattle.sj_work.specs.Attended.{AttendCause, AttendedBy}
use Rattle.sj_work.specs.Views.{stop_of}
use Rattle.sj_work.specs.Worked.{kept_stop}
use Rattle.sj_work.specs.declared.worker.Stop.{Stop}
use Rattle.sj_work.specs.declared.worker.Stop.TheVariants as stops
use Rattle.sj_work.specs.declared.worker.Worker.{Worker}
use Rattle.sj_work.proofs.LaneLaws.{LaneLaws}
use Rattle.sj_seat.specs.Went.{lasting}

-- a stop that stays isn't the end of the clock
not_kept : (s : Stop) → kept_stop (Some stops.ClockEnd) ≡ Some s → ⊥
not_kept s h = absurd (cc h)

module _ {O I : Type 0} (k : LaneLaws O I) (a b : Worker O I) where
  ended_cause : (lost : Option (LostAt Place)) (s : Option Stop) → AttendCause k.outward k.inward s lost a b → s ≡ Some stops.ClockEnd → clock_end ≤ clock_of b.node
  ended_cause lost s cause is = subst (λ (t : Option Stop). AttendCause k.outward k.inward t lost a b) is cause

  -- a round that ends the clock
  pub ended_round : AttendedBy k.outward k.inward (kept_stop (stop_of a)) a b → stop_of b ≡ Some stops.ClockEnd → clock_end ≤ clock_of b.node
  ended_round w is = by (kept_stop (stop_of a)) refl w
    where
      by : (o : Option Stop) → kept_stop (stop_of a) ≡ o → AttendedBy k.outward k.inward o a b → clock_end ≤ clock_of b.node
      by None none x = ended_cause x.1.lost (stop_of b) x.1.cause is
      by (Some stop) kept same = absurd (not_kept stop (sym (ap kept_stop (sym (ap stop_of same) ∙ is)) ∙ kept))

module _ {O I : Type 0} (w : Worker O I) where
  abbrev pub IsStoppedAt : Stop → Type 0
  IsStoppedAt s = (kept_stop (stop_of w) ≡ Some s) ⊎ ((s ≡ stops.ClockEnd) × (clock_end ≤ clock_of w.node))

  -- the stop that lasts has its cause
  pub stopped_so : (s : Stop) → stop_of w ≡ Some s → (s ≡ stops.ClockEnd → clock_end ≤ clock_of w.node) → IfSome (lasting s) IsStoppedAt
  stopped_so stops.ClockEnd is ended = inr (refl, ended refl)
  stopped_so stops.NoMemory is ended = inl (ap kept_stop is)
  stopped_so stops.Fault is ended = inl (ap kept_stop is)
  stopped_so stops.Unfit is ended = inl (ap kept_stop is)
  stopped_so stops.Finished is ended = tt
  stopped_so stops.Idle is ended = tt
  stopped_so stops.AtLimit is ended = tt

-- and is the one that was answered
pub lasting_is : (o : Option Stop) (s : Stop) → o ≡ Some s → IfSome (lasting s) (λ t. o ≡ Some t)
lasting_is o stops.ClockEnd is = is
lasting_is o stops.NoMemory is = is
lasting_is o stops.Fault is = is
lasting_is o stops.Unfit is = is
lasting_is o stops.Finished is = tt
lasting_is o stops.Idle is = tt
lasting_is o stops.AtLimit is = tt

-- none lasts, so none is kept
pub none_kept : (o : Option Stop) (s : Stop) → o ≡ Some s → lasting s ≡ None → kept_stop o ≡ None
none_kept o stops.ClockEnd is none = ap kept_stop is
none_kept o stops.NoMemory is none = absurd (cc none)
none_kept o stops.Fault is none = absurd (cc none)
none_kept o stops.Unfit is none = absurd (cc none)
none_kept o stops.Finished is none = ap kept_stop is
none_kept o stops.Idle is none = ap kept_stop is
none_kept o stops.AtLimit is none = ap kept_stop is
