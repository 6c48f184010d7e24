-- Environments as maps of std.
use Rattle.std.specs.Prelude.{◌≡◌, ℕ, ◌==◌, if◌then◌else◌, List, refl}
use Rattle.std.specs.Coded.{Coded, code_by, coded×, coded_ℕ}
use Rattle.std.specs.Ordering.{nat_cmp}
use Rattle.std.specs.FinMap as map
use Rattle.std.specs.FinMap.{FinMap}
use Rattle.sj_lang.specs.declared.party.Scalar.{Scalar}
use Rattle.sj_lang.specs.declared.party.Scalar.TheVariants.{Int, Boolean, Text}
use Rattle.sj_table.specs.declared.table.Spot.{Spot}
use Rattle.sj_table.specs.contracts.table.Spot as spot
use Rattle.sj_check.specs.SpotEnv.{SpotEnv}

-- the finite map of some entries
abbrev pub map_at : {X : Type 0} → List (ℕ × X) → FinMap nat_cmp X
map_at es = map.from_entries es

abbrev pub scalar_number : Scalar → ℕ
scalar_number Int = 0
scalar_number Boolean = 1
scalar_number Text = 2

abbrev pub scalar_at : ℕ → Scalar
scalar_at n = if n == 0 then Int else (if n == 1 then Boolean else Text)

pub scalar_again : (k : Scalar) → scalar_at (scalar_number k) ≡ k
scalar_again Int = refl
scalar_again Boolean = refl
scalar_again Text = refl

-- finite maps of spots and of kinds, and what a party knows, as codes
abbrev pub coded_spots : Coded (FinMap nat_cmp Spot)
coded_spots = map.code coded_ℕ spot.the_row.coded

abbrev pub coded_kinds : Coded (FinMap nat_cmp Scalar)
coded_kinds = map.code coded_ℕ (code_by ℕ coded_ℕ scalar_number scalar_at scalar_again)

abbrev pub coded_env : Coded SpotEnv
coded_env =
    code_by (FinMap nat_cmp Spot × FinMap nat_cmp Scalar) (coded× coded_spots coded_kinds)
    (λ e. (e.spots, e.variables)) (λ p. record { spots = p.0; variables = p.1 }) (λ _. refl)
