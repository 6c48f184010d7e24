-- Tables that have a spot for each place that an end carries.
use Rattle.std.specs.Prelude.{◌≡◌, ℕ, ◌<◌, ◌-◌, ◌^◌, true}
use Rattle.sj_lang.specs.Place.{Place}
use Rattle.sj_table.specs.declared.table.Spot.{Spot}
use Rattle.sj_table.specs.declared.table.Table.{Table}
use Rattle.sj_table.specs.Spots.{HasSpot, place_in}
use Rattle.sj_seat_laws.specs.Guards.{carried_next}
use Rattle.sj_seat.specs.Fronts.{takes_end}

-- nodes of a table have smaller numbers
abbrev pub limit_of_spots : ℕ
limit_of_spots = 2 ^ 32 - 1

-- the spot is one of the table, and stands for the place
abbrev pub IsSpotOf : Table → Place → Spot → Type 0
IsSpotOf t p s = (s.node < limit_of_spots) × HasSpot t s × (place_in t s ≡ p)

-- no spot of the table stands for the place
abbrev pub LacksPlace : Table → Place → Type 0
LacksPlace t p = (s : Spot) → IsSpotOf t p s → ⊥

-- where a place of the table begins with the taking of an end, some spot stands for what that end begins with
abbrev pub CarriesPlaces : Table → Type 0
CarriesPlaces t = (s : Spot) → takes_end (place_in t s) ≡ true → LacksPlace t (carried_next (place_in t s)) → ⊥
