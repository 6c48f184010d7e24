-- The counts of a lane before a call and after it.
use Rattle.std.specs.Prelude.{◌≡◌, ℕ, ◌+◌, ◌-◌, ◌^◌, ◌≤◌, min, Option, Some, None}
use Rattle.sj_lane.specs.Told.{Rose}

-- the last value of a count, at which it stays
abbrev pub last_count : ℕ
last_count = 2 ^ 64 - 1

-- a count rose by at least so much, or stands at its last value
abbrev pub RoseBy : ℕ → ℕ → ℕ → Type 0
RoseBy k old new = min (old + k) last_count ≤ new

-- it didn't fall
abbrev pub Stands : ℕ → ℕ → Type 0
Stands old new = old ≤ new

-- it didn't fall below its last value
abbrev pub Stood : ℕ → ℕ → Type 0
Stood old new = min old last_count ≤ new

module _ {L : Type 0} (count : L → ℕ) where
  -- there is no lane before and after the call, or one whose counts are so
  abbrev pub OnLane : (ℕ → ℕ → Type 0) → (old new : Option L) → Type 0
  OnLane R None None = Unit {0}
  OnLane R None (Some b) = ⊥
  OnLane R (Some a) None = ⊥
  OnLane R (Some a) (Some b) = R (count a) (count b)

  -- some lane's count rose
  abbrev pub SomeRose : (old new : ℕ → Option L) → Type 0
  SomeRose old new = (q : ℕ) × (a b : L) × (old q ≡ Some a) × (new q ≡ Some b) × Rose (count a) (count b)
