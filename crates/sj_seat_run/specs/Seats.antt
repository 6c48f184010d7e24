-- Which parties of a run code plays.
use Rattle.std.specs.Prelude.{◌≡◌, ℕ, ◌<◌, Bool, List, length, map, Option, is_some}
use Rattle.sj_seats.specs.Seated.{seat_in}

-- those that have a code
abbrev pub seats_by : {C : Type 0} → List (Option C) → ℕ → Bool
seats_by codes = seat_in (map is_some codes)

-- there is one entry for each party, and the same parties have a code
pub record HasSameSeats {C : Type 0} (parties : ℕ) (old new : List (Option C)) : Type 0 where
  pub count : length new ≡ parties
  pub each : (p : ℕ) → p < parties → seats_by new p ≡ seats_by old p
