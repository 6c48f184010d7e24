-- What parties offer, as contracts see it.
use Rattle.std.specs.Prelude.{ℕ, ◌<◌, ◌==◌, if◌then◌else◌, List, [], slice_get, vec_capacity, vec_len, Option, Some, None}
use Rattle.std.specs.Prelude.{Vec}
use Rattle.std.specs.declared.alloc.Global.{Global}

-- the numbers of a list, and none where there is no list
abbrev pub numbers_in : Option (Vec ℕ Global) → List ℕ
numbers_in None = []
numbers_in (Some ns) = ns.items

-- what each party offers
abbrev pub offers_in : List (Vec ℕ Global) → (from : ℕ) → List ℕ
offers_in lists q = numbers_in (slice_get lists q)

-- what that party offers is this from now on
abbrev pub offering : (from : ℕ) → List ℕ → (ℕ → List ℕ) → ℕ → List ℕ
offering q sessions offers = λ p. if p == q then sessions else offers p

-- there is a list for that party, with room for one number more
abbrev pub TakesMore : Option (Vec ℕ Global) → Type 0
TakesMore None = ⊥
TakesMore (Some ns) = vec_len ns < vec_capacity ns

-- the same, of all lists
abbrev pub CanOffer : List (Vec ℕ Global) → (from : ℕ) → Type 0
CanOffer lists q = TakesMore (slice_get lists q)
