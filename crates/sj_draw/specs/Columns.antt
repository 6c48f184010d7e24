-- Where the parties' lines stand: each in the middle of a column, which is
-- as wide as its name needs.
use Rattle.std.specs.Prelude.{ℕ, ◌+◌, ◌*◌, ◌-◌, ◌/◌, ◌==◌, List, [], ◌∷◌, length, min, max, Option, Some, None, if◌then◌else◌}
use Rattle.sj_draw.specs.Chart.{ChartAt, most_name}

-- the least half of a column; so wide that the longest name and text of an arrow fit, where 2,400
-- are enough for all columns
abbrev pub base_of : ChartAt → ℕ
base_of f = max 80 (min (4 * f.texts + 24) (1200 / max 1 (length f.parties)))

-- half of the column of a party; a letter is at most 8 wide
abbrev pub half_of : ℕ → List ℕ → ℕ
half_of base name = max base (4 * min (length name) most_name + 12)

-- where the line of the party of that number stands, after the columns before it; where there is no
-- such party, the width of all columns
abbrev pub x_of : ℕ → List (List ℕ) → ℕ → ℕ
x_of base [] i = 0
x_of base (p ∷ ps) i = if i == 0 then half_of base p else 2 * half_of base p + x_of base ps (i - 1)

-- where an arrow ends
abbrev pub tip_of : ℕ → List (List ℕ) → ℕ → Option ℕ → ℕ
tip_of base ps from None = x_of base ps from + 40
tip_of base ps from (Some to) = x_of base ps to

-- letters that fit above an arrow with those ends
abbrev pub letters_of : ℕ → ℕ → ℕ → ℕ
letters_of base start tip = (max (max start tip - min start tip) (2 * base) - 20) / 8
