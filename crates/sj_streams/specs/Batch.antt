-- The words of an entry: names, each with a value after it.
use Rattle.std.specs.Prelude.{ℕ, if◌then◌else◌, List, [], ◌∷◌, Option, Some, None, codes}
use Rattle.std.specs.Str.{bytes_eq}

-- the lines of a batch come first, under their name
unfoldable pub lines_in : (words : List (List ℕ)) → Option (List ℕ)
lines_in [] = None
lines_in (name ∷ []) = None
lines_in (name ∷ lines ∷ others) = if bytes_eq name (codes "e") then Some lines else None

-- the value after the first name that is this one
unfoldable pub frames_named : (name : List ℕ) → (words : List (List ℕ)) → List ℕ
frames_named name [] = []
frames_named name (n ∷ []) = []
frames_named name (n ∷ frames ∷ others) = if bytes_eq n name then frames else frames_named name others
