-- Which pieces an expression begins with, limits aside.
use Rattle.std.specs.Prelude.{◌≡◌, ◌≢◌, ℕ, List, [], ◌∷◌, ◌++◌}
use Rattle.sj_lang.specs.Term.{Term}
use Rattle.sj_grammar.specs.declared.tokens.Rule.{Rule}
use Rattle.sj_lang.specs.Limits.{Limits}
use Rattle.sj_grammar.specs.Tables.{Spelling}
use Rattle.sj_grammar.specs.Positions.{Pieces}
use Rattle.sj_grammar.specs.Expressions.{Spelt, whole}
use Rattle.sj_grammar.specs.Rules.{over_limit}
use Rattle.sj_grammar.specs.Viable.{IsViable}

-- some expression is these pieces, limits aside
pub record IsSomeExpression (pieces : Pieces) : Type 0 where
  pub within : Limits
  pub names : Spelling
  pub term : Term
  pub spelt : Spelt within names whole 0 term pieces

-- At the token after these pieces the rule is broken: up to there an expression can go on so.
-- With the token none does, or, where the rule is that of limits, the token passes a limit.
pub record IsBrokenAt (pieces : Pieces) (s : List ℕ) (rule : Rule) : Type 0 where
  pub viable : IsViable IsSomeExpression pieces
  pub wrong : rule ≢ over_limit → IsViable IsSomeExpression (pieces ++ s ∷ []) → ⊥
  pub over : rule ≡ over_limit → IsViable IsSomeExpression (pieces ++ s ∷ [])
