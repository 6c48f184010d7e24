-- What arms leave together.
use Rattle.std.specs.Prelude.{Bool, true, false, ◌&&◌, Option, Some, List, [], ◌∷◌}
use Rattle.std.specs.Ordering.{nat_cmp}
use Rattle.std.specs.FinMap as map
use Rattle.std.specs.FinMap.{FinMap}
use Rattle.sj_lang.specs.declared.party.Scalar.{Scalar}
use Rattle.sj_lang.specs.Place.{Place}
use Rattle.sj_acceptance.specs.EnvAt.{EnvAt, empty_env}
use Rattle.sj_acceptance.specs.Sameness.{is_same_kind, is_same_ends}

-- both are known, at one kind
abbrev pub agree : Option Scalar → Option Scalar → Bool
agree (Some j) (Some k) = is_same_kind j k
agree _ _ = false

-- the variables that both know at one kind
unfoldable pub common : FinMap nat_cmp Scalar → FinMap nat_cmp Scalar → FinMap nat_cmp Scalar
common a b = map.retain_keys a (λ n. agree (map.get a n) (map.get b n))

-- all leave the same live ends at the same places
abbrev pub all_leave : FinMap nat_cmp Place → List EnvAt → Bool
all_leave ends [] = true
all_leave ends (env ∷ envs) = is_same_ends ends env.ends && all_leave ends envs

-- the variables that all know at one kind
abbrev pub common_of : FinMap nat_cmp Scalar → List EnvAt → FinMap nat_cmp Scalar
common_of known [] = known
common_of known (env ∷ envs) = common_of (common known env.variables) envs

-- all arms leave the same ends
abbrev pub is_one : List EnvAt → Bool
is_one [] = true
is_one (env ∷ envs) = all_leave env.ends envs

-- what arms leave together
abbrev pub common_env : List EnvAt → EnvAt
common_env [] = empty_env
common_env (env ∷ envs) = record { ends = env.ends; variables = common_of env.variables envs }
