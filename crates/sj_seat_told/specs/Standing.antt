-- How the parties of a world with seats stand.
use Rattle.std.specs.Prelude.{◌≡◌, ℕ, List, length, slice_get, Some}
use Rattle.sj_seat_told_laws.specs.StillSeats.{IsStandOf}
use Rattle.sj_seats.specs.Seated.{core_of, party_count}
use Rattle.sj_seats.specs.declared.seated.SeatedWorld.{SeatedWorld}
use Rattle.sj_told.specs.declared.told.Stand.{Stand}

-- the party stands so, by its program or by what its code holds and called
abbrev pub IsNodeStand : SeatedWorld → ℕ → Stand → Type 0
IsNodeStand w p s = IsStandOf ((core_of w).nodes p).program s

-- each party has its own
pub record AreNodeStands (w : SeatedWorld) (stands : List Stand) : Type 0 where
  pub count : length stands ≡ party_count w
  pub each : (p : ℕ) (s : Stand) → slice_get stands p ≡ Some s → IsNodeStand w p s
