-- Kinds of variables, and spots of ends, in tables by the numbers of their names.
use Rattle.std.specs.Prelude.{ℕ, suc, ◌==◌, Bool, true, false, if◌then◌else◌, List, [], ◌∷◌, map, Option, Some, None}
use Rattle.std.specs.Ordering.{nat_cmp}
use Rattle.std.specs.FinMap.{FinMap}
use Rattle.sj_lang.specs.declared.party.Scalar.{Scalar}
use Rattle.sj_lang.specs.declared.party.Scalar.TheVariants.{Int, Boolean, Text}
use Rattle.sj_table.specs.declared.table.Spot.{Spot}
use Rattle.sj_check.specs.Maps.{map_at}

-- the kind for which a byte stands
abbrev pub kind_of_byte : ℕ → Option Scalar
kind_of_byte b = if b == 1 then Some Int else (if b == 2 then Some Boolean else (if b == 3 then Some Text else None))

-- the entries from number n on
abbrev pub numbered : {X : Type 0} → ℕ → List (Option X) → List (ℕ × X)
numbered n [] = []
numbered n (None ∷ os) = numbered (suc n) os
numbered n (Some k ∷ os) = (n, k) ∷ numbered (suc n) os

-- the kinds in the table
abbrev pub kinds_in : List ℕ → FinMap nat_cmp Scalar
kinds_in bs = map_at (numbered 0 (map kind_of_byte bs))

-- the spots in the table
abbrev pub spots_in : List (Option Spot) → FinMap nat_cmp Spot
spots_in os = map_at (numbered 0 os)

-- no number has a spot
abbrev pub is_blank : List (Option Spot) → Bool
is_blank [] = true
is_blank (None ∷ os) = is_blank os
is_blank (Some s ∷ os) = false
