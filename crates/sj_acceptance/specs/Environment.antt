-- What a party knows between two statements.
use Rattle.std.specs.Prelude.{◌≡◌, ℕ, ◌==◌, ◌↔◌, List, Option, Some, None, slice_get, if◌then◌else◌}
use Rattle.sj_lang.specs.declared.party.Scalar.{Scalar}
use Rattle.sj_lang.specs.Place.{Place}

-- live end names with their places, and variable names with their kinds
pub record Env : Type 0 where
  pub places : ℕ → Option Place
  pub kinds : ℕ → Option Scalar

-- the map with this under that name
abbrev pub put : {X : Type 0} → (ℕ → Option X) → ℕ → Option X → ℕ → Option X
put f n o m = if m == n then o else f m

-- the environment with the end at that place
abbrev pub at_place : Env → ℕ → Place → Env
at_place env x p = record { places = put env.places x (Some p); kinds = env.kinds }

-- the environment in which that end isn't live
abbrev pub without_end : Env → ℕ → Env
without_end env x = record { places = put env.places x None; kinds = env.kinds }

-- the environment with the variable of that kind
abbrev pub with_kind : Env → ℕ → Scalar → Env
with_kind env n k = record { places = env.places; kinds = put env.kinds n (Some k) }

-- the name is no live end and no variable of another kind
pub record IsFreeFor (env : Env) (n : ℕ) (k : Scalar) : Type 0 where
  pub no_end : env.places n ≡ None
  pub no_other : (j : Scalar) → env.kinds n ≡ Some j → j ≡ k

-- the name is in no use
pub record IsUnused (env : Env) (n : ℕ) : Type 0 where
  pub no_end : env.places n ≡ None
  pub no_variable : env.kinds n ≡ None

-- the same live ends at the same places
abbrev pub SameEnds : Env → Env → Type 0
SameEnds old new = (n : ℕ) → new.places n ≡ old.places n

-- each of the former environments has the ends of the next one, which knows the variables that all
-- of them know at one kind
pub record IsCommon (lasts : List Env) (next : Env) : Type 0 where
  pub ends : (k : ℕ) (last : Env) → slice_get lasts k ≡ Some last → SameEnds last next
  pub kinds : (n : ℕ) (kind : Scalar) → (next.kinds n ≡ Some kind) ↔ ((k : ℕ) (last : Env) → slice_get lasts k ≡ Some last → last.kinds n ≡ Some kind)
