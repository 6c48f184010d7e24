-- One call of a worker after another.
use Rattle.std.proofs.Common.{◌≡◌, ℕ, Option, Some, None, refl, ap, sym, ◌∙◌, subst}
use Rattle.sj_lang.specs.Place.{Place}
use Rattle.sj_rules.specs.Work.{LostAt}
use Rattle.sj_work.specs.declared.worker.Stop.{Stop}
use Rattle.sj_work.specs.declared.worker.Stop.TheVariants as stops
use Rattle.sj_work.specs.declared.worker.Worker.{Worker}
use Rattle.sj_work.specs.Causes.{Loses}
use Rattle.sj_work.specs.Views.{stop_of}
use Rattle.sj_work.specs.Worked.{Worked, WorkedBy, kept_stop}
use Rattle.sj_work.proofs.LaneLaws.{CauseBy, LaneLaws, TurnedBy, WentBy}
use Rattle.sj_work.proofs.TurnLemmas.{turned_behind}

-- a stop that doesn't stay loses nothing
loses_none : (s : Option Stop) (l : LostAt Place) → kept_stop s ≡ None → Loses (Some l) s → ⊥
loses_none None l k h = h
loses_none (Some stops.Finished) l k h = h
loses_none (Some stops.Idle) l k h = h
loses_none (Some stops.AtLimit) l k h = h
loses_none (Some stops.ClockEnd) l k h = h
loses_none (Some stops.NoMemory) l k h = cc
loses_none (Some stops.Fault) l k h = h
loses_none (Some stops.Unfit) l k h = cc

module _ {O I : Type 0} (k : LaneLaws O I) where
  abbrev CallBy : Option Stop → (looks : ℕ) → (old new : Worker O I) → Type 0
  CallBy s looks old new = WorkedBy k.outward k.inward s looks old new

  -- a call whose stop doesn't stay lost nothing
  went_whole : (looks : ℕ) (a b : Worker O I) → kept_stop (stop_of b) ≡ None → TurnedBy k looks a b → WentBy k None a b
  went_whole looks a b kept t = go t.lost t.went t.loses
    where
      go : (lost : Option (LostAt Place)) → WentBy k lost a b → Loses lost (stop_of b) → WentBy k None a b
      go None w l = w
      go (Some x) w l = absurd (loses_none (stop_of b) x kept l)

  -- the cause of a stop that stays speaks of no looks
  same_cause : (s : Option Stop) (t : Stop) (few looks : ℕ) (lost : Option (LostAt Place)) (a b : Worker O I) → kept_stop s ≡ Some t → CauseBy k s few lost a b
      → CauseBy k s looks lost a b
  same_cause None t few looks lost a b e c = absurd (cc e)
  same_cause (Some stops.Finished) t few looks lost a b e c = absurd (cc e)
  same_cause (Some stops.Idle) t few looks lost a b e c = absurd (cc e)
  same_cause (Some stops.AtLimit) t few looks lost a b e c = absurd (cc e)
  same_cause (Some stops.ClockEnd) t few looks lost a b e c = absurd (cc e)
  same_cause (Some stops.NoMemory) t few looks lost a b e c = c
  same_cause (Some stops.Fault) t few looks lost a b e c = c
  same_cause (Some stops.Unfit) t few looks lost a b e c = c

  turned_alike : (t : Stop) (few looks : ℕ) (a b : Worker O I) → kept_stop (stop_of b) ≡ Some t → TurnedBy k few a b → TurnedBy k looks a b
  turned_alike t few looks a b kept x = record {
    lost = x.lost;
    went = x.went;
    loses = x.loses;
    finished = x.finished;
    cause = same_cause (stop_of b) t few looks x.lost a b kept x.cause;
  }

  call_later : (s t : Option Stop) (few looks : ℕ) (a b c : Worker O I) → kept_stop (stop_of a) ≡ s → kept_stop (stop_of b) ≡ t → CallBy s few a b
      → CallBy t looks b c → CallBy s looks a c
  call_later (Some s) (Some t) few looks a b c is this x y = y ∙ x
  call_later (Some s) None few looks a b c is this x y = let e = ap (λ w. kept_stop (stop_of w)) x in absurd (cc)
  call_later None (Some t) few looks a b c is this x y = subst (CallBy None looks a) (sym y) (x.0, turned_alike t few looks a b this x.1)
  call_later None None few looks a b c is this x y = (y.0, turned_behind k looks a b c (went_whole few a b this x.1) y.1)

  pub worked_later : (few looks : ℕ) (a b c : Worker O I)
      → Worked k.outward k.inward few a b
      → Worked k.outward k.inward looks b c
      → Worked k.outward k.inward looks a c
  worked_later few looks a b c x y = call_later (kept_stop (stop_of a)) (kept_stop (stop_of b)) few looks a b c refl refl x y
