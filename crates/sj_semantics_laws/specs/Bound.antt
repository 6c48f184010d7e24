-- The ends that a step names are bound at its party.
use Rattle.std.specs.Prelude.{ℕ, ◌≤◌, List, [], ◌∷◌, ⊤}
use Rattle.sj_base.specs.declared.EndId.{EndId}
use Rattle.sj_semantics.specs.declared.Want.{Want}
use Rattle.sj_semantics.specs.declared.Want.TheVariants as wants
use Rattle.sj_semantics.specs.Uses.{Use, sends, takes, delegates, begins}
use Rattle.sj_semantics_laws.specs.Unshared.{bindings_of}

-- the end has a name there
pub record IsBound (e : EndId) (ends : List (ℕ × EndId)) : Type 0 where
  pub some_name : 1 ≤ bindings_of e ends

-- each end that the step names is bound
abbrev pub AreBound : List (ℕ × EndId) → Want → Type 0
AreBound ends (wants.Send e m) = IsBound e ends
AreBound ends (wants.Delegate e y) = IsBound e ends × IsBound y ends
AreBound ends (wants.Take e a) = IsBound e ends
AreBound ends (wants.Close e) = IsBound e ends
AreBound ends wants.Local = ⊤
AreBound ends (wants.Request n q) = ⊤
AreBound ends (wants.Accept n q) = ⊤
AreBound ends wants.Ended = ⊤

-- an end that is used is bound, unless the use is its beginning
abbrev pub UseBound : List (ℕ × EndId) → EndId → Use → Type 0
UseBound ends e (sends m) = IsBound e ends
UseBound ends e (takes m) = IsBound e ends
UseBound ends e delegates = IsBound e ends
UseBound ends e (begins place) = ⊤

-- so it is with each of these
abbrev pub UsesBound : List (ℕ × EndId) → List (EndId × Use) → Type 0
UsesBound ends [] = ⊤
UsesBound ends (u ∷ us) = UseBound ends u.0 u.1 × UsesBound ends us
