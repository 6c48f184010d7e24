-- One party that code plays, and no other.
use Rattle.std.specs.Prelude.{◌≡◌, ℕ, ◌==◌, Bool, false, List, length, Option}
use Rattle.sj_seat_run.specs.Seats.{seats_by}

-- it is that party
abbrev pub is_party : ℕ → ℕ → Bool
is_party party q = q == party

-- these codes are that party's code, and none of another
abbrev pub AreAlone : {C : Type 0} → ℕ → List (Option C) → Type 0
AreAlone party codes = (q : ℕ) → seats_by codes q ≡ is_party party q

-- there are so many, of parties without a code
pub record AreNobodys {C : Type 0} (many : ℕ) (codes : List (Option C)) : Type 0 where
  pub count : length codes ≡ many
  pub none : (q : ℕ) → seats_by codes q ≡ false
