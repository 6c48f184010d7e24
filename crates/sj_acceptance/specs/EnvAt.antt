-- What a party knows at a statement, as finite maps, on which tests compute.
use Rattle.std.specs.Prelude.{ℕ, Bool, is_some, unwrap_or}
use Rattle.std.specs.Ordering.{nat_cmp}
use Rattle.std.specs.FinMap as map
use Rattle.std.specs.FinMap.{FinMap}
use Rattle.sj_lang.specs.declared.party.Scalar.{Scalar}
use Rattle.sj_lang.specs.Place.{Place, done}
use Rattle.sj_acceptance.specs.Environment.{Env}

-- the place of each live end, and the kind of each variable
pub record EnvAt : Type 0 where
  pub ends : FinMap nat_cmp Place
  pub variables : FinMap nat_cmp Scalar

-- the end moves on to this place, or begins there
abbrev pub with_live : EnvAt → ℕ → Place → EnvAt
with_live env x p = record env { ends = map.insert env.ends x p }

-- the end is live no more
abbrev pub without_live : EnvAt → ℕ → EnvAt
without_live env x = record env { ends = map.remove env.ends x }

-- the variable is known at this kind
abbrev pub with_known : EnvAt → ℕ → Scalar → EnvAt
with_known env n k = record env { variables = map.insert env.variables n k }

-- nothing is live, and nothing is known
abbrev pub empty_env : EnvAt
empty_env = record { ends = map.empty; variables = map.empty }

-- the environment that has what the maps have
abbrev pub env_of : EnvAt → Env
env_of k = record { places = λ n. map.get k.ends n; kinds = λ n. map.get k.variables n }

-- the end is live
abbrev pub is_live : EnvAt → ℕ → Bool
is_live env x = is_some (map.get env.ends x)

-- the variable is known
abbrev pub is_known : EnvAt → ℕ → Bool
is_known env n = is_some (map.get env.variables n)

-- the end's place, and the empty one where it isn't live
abbrev pub place_at : EnvAt → ℕ → Place
place_at env x = unwrap_or (map.get env.ends x) done
