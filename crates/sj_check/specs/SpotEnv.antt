-- What a party knows at a statement, with spots of a table for places.
use Rattle.std.specs.Prelude.{ℕ, map}
use Rattle.std.specs.Ordering.{nat_cmp}
use Rattle.std.specs.FinMap as finite
use Rattle.std.specs.FinMap.{FinMap}
use Rattle.sj_lang.specs.declared.party.Scalar.{Scalar}
use Rattle.sj_lang.specs.Place.{Place}
use Rattle.sj_table.specs.declared.table.Spot.{Spot}
use Rattle.sj_table.specs.declared.table.Table.{Table}
use Rattle.sj_table.specs.Spots.{place_in}

-- the spot of each live end, and the kind of each variable
pub record SpotEnv : Type 0 where
  pub spots : FinMap nat_cmp Spot
  pub variables : FinMap nat_cmp Scalar

-- the end moves on to this spot, or begins there
abbrev pub with_spot : SpotEnv → ℕ → Spot → SpotEnv
with_spot env x s = record env { spots = finite.insert env.spots x s }

-- the end is live no more
abbrev pub without_spot : SpotEnv → ℕ → SpotEnv
without_spot env x = record env { spots = finite.remove env.spots x }

-- the variable is known at this kind
abbrev pub with_kind : SpotEnv → ℕ → Scalar → SpotEnv
with_kind env n k = record env { variables = finite.insert env.variables n k }

-- nothing is live, and nothing is known
abbrev pub no_spots : SpotEnv
no_spots = record { spots = finite.empty; variables = finite.empty }

-- the places for which spots stand
unfoldable pub places_at : Table → FinMap nat_cmp Spot → FinMap nat_cmp Place
places_at t spots = finite.from_entries (map (λ e. (e.0, place_in t e.1)) (finite.entries spots))
