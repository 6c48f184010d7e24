-- What the texts of a grammar begin with.
-- A grammar says which pieces are a whole text of it, limits aside.
use Rattle.std.specs.Prelude.{◌++◌}
use Rattle.sj_grammar.specs.Positions.{Pieces}

-- some text of the grammar begins with these pieces
pub record IsViable (IsWhole : Pieces → Type 0) (pieces : Pieces) : Type 0 where
  pub later : Pieces
  pub all : IsWhole (pieces ++ later)
