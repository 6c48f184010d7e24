-- How a party stands, by what it wants.
use Rattle.std.proofs.Common.{◌≡◌, ℕ, ◌<◌, ◌≤◌, nat_lt, Bool, true, false, cond, Option, Some, None, unwrap_or, refl, ap, sym, ◌∙◌}
use Rattle.std.proofs.lemmas.Bool.{le-ltb, lt-ltb}
use Rattle.sj_semantics.specs.declared.Limit.TheVariants as limits
use Rattle.sj_semantics.specs.declared.State.{State}
use Rattle.sj_semantics.specs.declared.State.TheVariants as states
use Rattle.sj_semantics.specs.declared.Want.{Want}
use Rattle.sj_semantics.specs.declared.Want.TheVariants as wants
use Rattle.sj_semantics.specs.Program.{Program}
use Rattle.sj_semantics.specs.State.{state_by, state_wanting, state_wanting_if, state_of_program}
use Rattle.sj_semantics.specs.Wants.{want_of}
use Rattle.sj_semantics.specs.World.{World}
use Rattle.sj_semantics_laws.proofs.StateLemmas.{when_below}

-- a program that is stuck counts as ended
state_by_want : (w : World) (p steps : ℕ) (o : Option Want) → state_wanting_if w p steps o ≡ state_wanting w p steps (unwrap_or o wants.Ended)
state_by_want w p steps None = refl
state_by_want w p steps (Some want) = refl

-- a party that hasn't ended is at the limit of steps, or stands as its step does
state_going : (w : World) (p steps : ℕ) (want : Want) → (want ≡ wants.Ended → ⊥) → state_wanting w p steps want ≡ cond (nat_lt steps 10000) (state_by w p want) (states.AtLimit limits.Steps)
state_going w p steps wants.Ended ne = absurd (ne refl)
state_going w p steps wants.Local ne = refl
state_going w p steps (wants.Send e m) ne = refl
state_going w p steps (wants.Delegate e y) ne = refl
state_going w p steps (wants.Take e a) ne = refl
state_going w p steps (wants.Close e) ne = refl
state_going w p steps (wants.Request n q) ne = refl
state_going w p steps (wants.Accept n q) ne = refl

-- a party that hasn't ended and has steps left stands as its next step does
pub stands_so : (w : World) (p steps : ℕ) (want : Want) (s : State) → (want ≡ wants.Ended → ⊥) → steps < 10000 → s ≡ state_by w p want → s ≡ state_wanting w p steps want
stands_so w p steps want s ne below so =
    so
    ∙ sym (when_below (nat_lt steps 10000) (state_by w p want) (states.AtLimit limits.Steps) (lt-ltb steps 10000 below))
    ∙ sym (state_going w p steps want ne)

when_past : (b : Bool) (s t : State) → b ≡ false → cond b s t ≡ t
when_past true s t h = cc
when_past false s t h = refl

-- and one without a step left stands at the limit
pub stands_at_limit : (w : World) (p steps : ℕ) (want : Want) → (want ≡ wants.Ended → ⊥) → 10000 ≤ steps → states.AtLimit limits.Steps ≡ state_wanting w p steps want
stands_at_limit w p steps want ne past =
    sym (when_past (nat_lt steps 10000) (state_by w p want) (states.AtLimit limits.Steps) (le-ltb steps 10000 past))
    ∙ sym (state_going w p steps want ne)

-- a party stands as the step that it wants does
pub stands_wanting : (w : World) (p : ℕ) (g : Program) (want : Want) → want ≡ unwrap_or (want_of g) wants.Ended → state_wanting w p g.steps want ≡ state_of_program w p g
stands_wanting w p g want it = ap (state_wanting w p g.steps) it ∙ sym (state_by_want w p g.steps (want_of g))
