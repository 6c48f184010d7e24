-- The acts that finish a world: rounds of all parties, until one has no act.
use Rattle.std.specs.Prelude.{◌≡◌, ◌≢◌, ℕ, zero, suc, ◌+◌, List, [], ◌∷◌, ◌++◌, length, Some, None}
use Rattle.sj_semantics.specs.World.{World, act_of}

-- the party acts as long as it is ready
abbrev pub ActsOut : (p : ℕ) → World → List ℕ → World → Type 0
ActsOut p w [] v = (act_of w p ≡ None) × (w ≡ v)
ActsOut p w (q ∷ ps) v = (q ≡ p) × ((mid : World) × ((act_of w p ≡ Some mid) × ActsOut p mid ps v))

-- so k parties do, from number p on, one after another
abbrev pub ActInTurn : (k p : ℕ) → World → List ℕ → World → Type 0
ActInTurn zero p w ps v = (ps ≡ []) × (w ≡ v)
ActInTurn (suc k) p w ps v =
    (first : List ℕ) × ((rest : List ℕ) × ((mid : World) × ((ps ≡ first ++ rest) × ActsOut p w first mid × ActInTurn k (p + 1) mid rest v)))

-- so all parties do, in file order
abbrev pub IsRound : World → List ℕ → World → Type 0
IsRound w ps v = ActInTurn (length w.parties) 0 w ps v

-- these rounds, and then one without an act
abbrev pub FinishesBy : (rounds : List (List ℕ)) → World → List ℕ → World → Type 0
FinishesBy [] w ps v = (ps ≡ []) × IsRound w [] v
FinishesBy (r ∷ rs) w ps v = (rest : List ℕ) × ((mid : World) × ((r ≢ []) × (ps ≡ r ++ rest) × IsRound w r mid × FinishesBy rs mid rest v))

-- the acts are those of the rounds from the one world, and lead to the other
abbrev pub IsFinished : World → List ℕ → World → Type 0
IsFinished w ps v = (rounds : List (List ℕ)) × FinishesBy rounds w ps v
