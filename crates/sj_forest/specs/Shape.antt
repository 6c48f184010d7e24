-- What a shape says of a file.
use Rattle.std.specs.Prelude.{◌≡◌, ◌≢◌, ℕ, Bool, List, [], map, length, Some, ⊤}
use Rattle.sj_forest.specs.Edges.{edge_of}
use Rattle.sj_forest.specs.Left.{those_left}
use Rattle.sj_forest.specs.declared.shape.Forest.{Forest}
use Rattle.sj_forest.specs.declared.shape.Shape.{Shape}
use Rattle.sj_forest.specs.declared.shape.Shape.TheVariants as shapes
use Rattle.sj_forest_laws.specs.Forest.{AreLeft, edges_of}
use Rattle.sj_forest_laws.specs.Opens.{first_opening}
use Rattle.sj_lang.specs.FileAt.{FileAt}
use Rattle.sj_semantics_laws.specs.Openless.{IsOpenless}

-- the forest has the file's parties and connections, and no body has a request or an accept
pub record IsShapeOf (f : Forest) (file : FileAt) : Type 0 where
  pub parties : f.parties ≡ length file.parties
  pub edges : map edge_of f.edges.items ≡ edges_of file
  pub openless : IsOpenless file

-- no body has a request or an accept, some parties are left, and those are listed, in file order
pub record IsCycle (numbers : List ℕ) (file : FileAt) : Type 0 where
  pub openless : IsOpenless file
  pub left : ℕ → Bool
  pub are_left : AreLeft (edges_of file) (length file.parties) left
  pub listed : numbers ≡ those_left left 0 (length file.parties)
  pub some_one : numbers ≢ []

-- the shape is that of the file
abbrev pub Tells : FileAt → Shape → Type 0
Tells file (shapes.Opens line) = first_opening file ≡ Some line
Tells file (shapes.Cycle numbers) = IsCycle numbers.items file
Tells file (shapes.Forest f) = IsShapeOf f file

-- it is a forest
abbrev pub IsForestShape : Shape → Type 0
IsForestShape (shapes.Opens line) = ⊥
IsForestShape (shapes.Cycle numbers) = ⊥
IsForestShape (shapes.Forest f) = ⊤
