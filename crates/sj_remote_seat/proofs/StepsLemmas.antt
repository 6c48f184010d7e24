-- Steps of code, one after another.
use Rattle.sj_remote_seat.specs.Steps.{Steps, goes, stays}

module _ {A : Type 0} (step : A → A → Type 0) where
  pub no_step : (a : A) → Steps step a a
  no_step a = stays

  pub one_step : (a b : A) → step a b → Steps step a b
  one_step a b s = goes a b stays s

  pub steps_then : {a b c : A} → Steps step a b → Steps step b c → Steps step a c
  steps_then s stays = s
  steps_then s (goes mid last t u) = goes mid last (steps_then s t) u
