-- Whether there is a stop.
use Rattle.std.proofs.Common.{◌≡◌, Bool, true, false, Option, Some, None, refl}
use Rattle.std.specs.Prelude.{is_some}
use Rattle.sj_work.specs.declared.worker.Outcome.{Outcome}
use Rattle.sj_work.specs.Views.{stop_in}

-- a worker that didn't answer didn't stop
pub none_if : (a : Option Outcome) (b : Bool) → b ≡ is_some a → b ≡ false → stop_in a ≡ None
none_if None b is no_answer = refl
none_if (Some x) b is no_answer = cc

-- and one that did did
pub some_if : (a : Option Outcome) (b : Bool) → b ≡ is_some a → b ≡ true → stop_in a ≡ None → ⊥
some_if None b is answers none = cc
some_if (Some x) b is answers none = cc

pub true_not_false : true ≡ false → ⊥
true_not_false h = cc h
