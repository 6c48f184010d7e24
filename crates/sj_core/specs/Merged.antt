-- Two lists of lines merged into one.
use Rattle.std.specs.Prelude.{◌≡◌, ◌⊎◌, ℕ, List, [], ◌++◌}
use Rattle.sj_rules.specs.Log.{LineAt, IsInOrder, part_of}

-- no party has lines in both
abbrev pub AreApart : List LineAt → List LineAt → Type 0
AreApart front back = (p : ℕ) → (part_of p front ≡ []) ⊎ (part_of p back ≡ [])

-- the lines of both, in order
pub record AreMerged (front back lines : List LineAt) : Type 0 where
  pub order : IsInOrder lines
  pub parts : (p : ℕ) → part_of p lines ≡ part_of p front ++ part_of p back
