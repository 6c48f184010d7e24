-- Words of the laws.
use Rattle.std.specs.Prelude.{◌≡◌, ℕ, List}
use Rattle.sj_lang.specs.Limits.{Limits}
use Rattle.sj_grammar.specs.Positions.{Pieces}
use Rattle.sj_grammar.specs.Layers.{goes, run}
use Rattle.sj_grammar.specs.ExpressionDues.{ExpressionDue, expression_layer}

-- with so many operands before, the tokens are taken;
-- after them so many are counted, and that is due
abbrev pub Leads : Limits → ℕ → List ExpressionDue → Pieces → ℕ → List ExpressionDue → Type 0
Leads L n ds ps m es = run expression_layer L n ds ps ≡ goes m es
