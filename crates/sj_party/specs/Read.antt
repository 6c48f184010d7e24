-- What a reader of statements and files read, and what it did to the tables.
use Rattle.std.specs.Prelude.{ℕ, ◌≤◌, List}
use Rattle.sj_lang.specs.declared.file.Names.{Names}
use Rattle.sj_lang.specs.Code.{Code}
use Rattle.sj_lang.specs.Limits.{limits}
use Rattle.sj_grammar.specs.Reading.{Reading}
use Rattle.sj_grammar.specs.Tables.{Spelling}
use Rattle.sj_grammar.specs.Positions.{Piece, At, BeginsOnLines}
use Rattle.sj_grammar.specs.Statements.{IsCode}
use Rattle.sj_proto.specs.Parsed.{need}
use Rattle.sj_expr.specs.Read.{Agrees}

-- from here to there the tokens are some pieces on their lines,
-- and by each spelling that agrees with the tables there F says what they are
pub record ReadsOnLines (a b : At) (F : Spelling → List Piece → Type 0) : Type 0 where
  pub pieces : List Piece
  pub begins : BeginsOnLines a pieces b
  pub are : (names : Spelling) → Agrees names b → F names pieces

-- statements inside so many inner braces
abbrev pub ReadsCode : ℕ → At → At → Code → Type 0
ReadsCode o a b c = ReadsOnLines a b (λ names ps. IsCode limits names o c ps)

-- what names and texts may still come doesn't grow
pub record KeepsRoom (old : Names) (r : Reading) (new : Names) (q : Reading) : Type 0 where
  pub words : need new.words q ≤ need old.words r
  pub texts : need new.texts q ≤ need old.texts r
