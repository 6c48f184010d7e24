-- The grammar of files, and which pieces its limits take.
use Rattle.std.specs.Prelude.{ℕ, List, [], ◌∷◌, ◌++◌}
use Rattle.sj_lang.specs.Limits.{Limits, limits}
use Rattle.sj_grammar.specs.Positions.{Pieces}
use Rattle.sj_grammar.specs.FileDues.{Due, file_due}
use Rattle.sj_grammar.specs.Wrong.{Grammar}
use Rattle.sj_party.specs.Leads.{Leads}
use Rattle.sj_party.specs.Viable.{IsSomeFile}

-- each piece is due, and passes no limit
pub record IsTaken (L : Limits) (pieces : Pieces) : Type 0 where
  pub count : ℕ
  pub dues : List Due
  pub leads : Leads L 0 file_due pieces count dues

-- the grammar of files: a piece passes a limit where the limits don't take it after the others
abbrev pub file_grammar : Grammar
file_grammar = record { IsWhole = IsSomeFile; IsWithin = IsTaken limits; PassesLimit = λ ps s. IsTaken limits (ps ++ s ∷ []) → ⊥ }
