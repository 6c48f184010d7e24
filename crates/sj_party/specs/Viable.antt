-- Which pieces are a file, and which one begins with, whatever the limits.
use Rattle.std.specs.Prelude.{◌≡◌, List}
use Rattle.sj_lang.specs.FileAt.{FileAt}
use Rattle.sj_lang.specs.Limits.{Limits}
use Rattle.sj_grammar.specs.Positions.{Pieces, Piece, spellings}
use Rattle.sj_grammar.specs.Files.{IsSpelled}
use Rattle.sj_grammar.specs.Viable.{IsViable}

-- some file is these pieces, limits aside
pub record IsSomeFile (pieces : Pieces) : Type 0 where
  pub within : Limits
  pub file : FileAt
  pub lines : List Piece
  pub spelled : IsSpelled within file lines
  pub same : spellings lines ≡ pieces

-- some file within these limits begins with these pieces
pub record IsViableWithin (L : Limits) (pieces : Pieces) : Type 0 where
  pub viable : IsViable IsSomeFile pieces
  pub within : viable.all.within ≡ L
