-- A party that can't act stands by its steps and its next one.
use Rattle.std.proofs.Common.{◌≡◌, ℕ, nat_lt, Bool, true, false, if◌then◌else◌, slice_get, unwrap_or, length, Option, Some, None, is_some, refl, ap, sym, ◌∙◌}
use Rattle.sj_semantics.specs.declared.Want.{Want}
use Rattle.sj_semantics.specs.declared.Want.TheVariants as wants
use Rattle.sj_semantics.specs.declared.State.{State}
use Rattle.sj_semantics.specs.declared.State.TheVariants as states
use Rattle.sj_semantics.specs.declared.Limit.TheVariants as limits
use Rattle.sj_semantics.specs.Ends.{end_at, limit_of_hops, next_for}
use Rattle.sj_semantics.specs.Program.{Program, limit_of_steps}
use Rattle.sj_semantics.specs.Requests.{first_offer, limit_of_requests}
use Rattle.sj_semantics.specs.State.{IsSettled, state_by, state_if, state_of, state_wanting, state_wanting_if}
use Rattle.sj_semantics.specs.Wants.{want_of}
use Rattle.sj_semantics.specs.World.{World, act_of}
use Rattle.sj_semantics_laws.proofs.StateLemmas.{ready_can_act}
use Rattle.sj_told.specs.Still.{still_by, still_state}

else_is : (b : Bool) (x : State) → ((if b then states.Ready else x) ≡ states.Ready → ⊥) → (if b then states.Ready else x) ≡ x
else_is true x h = absurd (h refl)
else_is false x h = refl

ended_either : (b : Bool) → states.Ended ≡ (if b then states.Ended else states.Ended)
ended_either true = refl
ended_either false = refl

module _ (w : World) (p : ℕ) where
  by_want : (want : Want) → (state_by w p want ≡ states.Ready → ⊥) → state_by w p want ≡ still_by want
  by_want wants.Ended h = refl
  by_want (wants.Delegate e y) h = else_is (nat_lt (end_at w.sessions y).hops limit_of_hops) (states.AtLimit (limits.Hops y)) h
  by_want (wants.Take e a) h = else_is (is_some (next_for w.sessions e)) (states.Waits e) h
  by_want (wants.Request n q) h = else_is (nat_lt (length (w.requests p)) limit_of_requests) (states.AtLimit limits.Requests) h
  by_want (wants.Accept n q) h = else_is (is_some (first_offer p (w.requests q))) (states.WaitsOpen q) h
  by_want wants.Local h = refl
  by_want (wants.Send e m) h = refl
  by_want (wants.Close e) h = refl

  by_steps : (b : Bool) (want : Want) → ((if b then state_by w p want else states.AtLimit limits.Steps) ≡ states.Ready → ⊥)
      → (if b then state_by w p want else states.AtLimit limits.Steps) ≡ (if b then still_by want else states.AtLimit limits.Steps)
  by_steps true want h = by_want want h
  by_steps false want h = refl

  wanting : (steps : ℕ) (want : Want) → (state_wanting w p steps want ≡ states.Ready → ⊥) → state_wanting w p steps want ≡ still_state steps want
  wanting steps wants.Ended h = ended_either (nat_lt steps limit_of_steps)
  wanting steps wants.Local h = by_steps (nat_lt steps limit_of_steps) wants.Local h
  wanting steps (wants.Send e m) h = by_steps (nat_lt steps limit_of_steps) (wants.Send e m) h
  wanting steps (wants.Delegate e y) h = by_steps (nat_lt steps limit_of_steps) (wants.Delegate e y) h
  wanting steps (wants.Take e a) h = by_steps (nat_lt steps limit_of_steps) (wants.Take e a) h
  wanting steps (wants.Close e) h = by_steps (nat_lt steps limit_of_steps) (wants.Close e) h
  wanting steps (wants.Request n q) h = by_steps (nat_lt steps limit_of_steps) (wants.Request n q) h
  wanting steps (wants.Accept n q) h = by_steps (nat_lt steps limit_of_steps) (wants.Accept n q) h

  wanting_if : (steps : ℕ) (o : Option Want) → (state_wanting_if w p steps o ≡ states.Ready → ⊥) → state_wanting_if w p steps o ≡ still_state steps (unwrap_or o wants.Ended)
  wanting_if steps None h = ended_either (nat_lt steps limit_of_steps)
  wanting_if steps (Some want) h = wanting steps want h

  pub stands_still : (g : Program) → slice_get w.parties p ≡ Some g → act_of w p ≡ None → state_of w p ≡ still_state g.steps (unwrap_or (want_of g) wants.Ended)
  stands_still g there none =
      let here : state_of w p ≡ state_wanting_if w p g.steps (want_of g) = ap (state_if w p) there in
      here ∙ wanting_if g.steps (want_of g) (λ ready. let v = ready_can_act w p (here ∙ ready) in let e = sym none ∙ v.1 in cc e)
