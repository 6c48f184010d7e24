-- Tests in order, and the first that fails.
use Rattle.std.specs.Prelude.{ℕ, Bool, Option, Some, None, if◌then◌else◌, List, [], ◌∷◌}

-- the rule that a test is of, its line, and whether it passes
abbrev pub Test : Type 0
Test = ℕ × ℕ × Bool

-- the first test that fails: its rule and its line
abbrev pub first_fault : List Test → Option (ℕ × ℕ)
first_fault [] = None
first_fault (t ∷ ts) = if t.2 then first_fault ts else Some (t.0, t.1)
