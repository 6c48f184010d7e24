-- Which parties act in a run.
use Rattle.std.specs.Prelude.{ℕ, List, [], ◌∷◌, ◌++◌}
use Rattle.sj_rules.specs.World.{Event, Act, Deliver, Turn}

-- the parties that act in a run, in order
abbrev pub acts_by : Event → ℕ → List ℕ
acts_by Act p = p ∷ []
acts_by (Deliver q) p = []

-- one for each act, none for a delivery
abbrev pub acts_in : List Turn → List ℕ
acts_in [] = []
acts_in (t ∷ ts) = acts_by t.event t.party ++ acts_in ts
