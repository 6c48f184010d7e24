-- What `forest` prints.
use Rattle.std.specs.Prelude.{◌≡◌, ◌⊎◌, ℕ, List, [], ◌∷◌, ◌++◌, Some, codes, decimal, map}
use Rattle.sj_lang.specs.FileAt.{FileAt}
use Rattle.sj_semantics.specs.Lines.{line_of, name_of}
use Rattle.sj_forest_laws.specs.Forest.{IsForest}
use Rattle.sj_forest_laws.specs.Opens.{first_opening}
use Rattle.sj_forest.specs.Shape.{IsCycle}

-- the line of the first request or accept
abbrev pub IsOpensText : FileAt → List ℕ → Type 0
IsOpensText file text = (line : ℕ) × (first_opening file ≡ Some line) × (text ≡ line_of (codes "forest" ∷ codes "opens" ∷ decimal line ∷ []))

-- each word after a space, and the end of the line
abbrev pub spaced_line : List (List ℕ) → List ℕ
spaced_line [] = codes "\n"
spaced_line (w ∷ ws) = codes " " ++ (w ++ spaced_line ws)

-- the names of the parties that are left, in file order
abbrev pub IsLeftText : FileAt → List ℕ → Type 0
IsLeftText file text = (numbers : List ℕ) × IsCycle numbers file × (text ≡ codes "forest no" ++ spaced_line (map (name_of file) numbers))

-- that nobody is left
abbrev pub IsYesText : FileAt → List ℕ → Type 0
IsYesText file text = IsForest file × (text ≡ line_of (codes "forest" ∷ codes "yes" ∷ []))

-- the file opens sessions, parties are left, or it is a forest
abbrev pub IsForestText : FileAt → List ℕ → Type 0
IsForestText file text = IsOpensText file text ⊎ (IsLeftText file text ⊎ IsYesText file text)
