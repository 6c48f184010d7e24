-- Where a text goes wrong, in a grammar's own words.
use Rattle.std.specs.Prelude.{◌≡◌, ◌⊎◌, List, ℕ, [], ◌∷◌, ◌++◌}
use Rattle.sj_grammar.specs.declared.tokens.Rule.{Rule}
use Rattle.sj_grammar.specs.declared.tokens.Fault.{Fault}
use Rattle.sj_grammar.specs.Lexis.{Ahead, at_end, bad, token, next_of}
use Rattle.sj_grammar.specs.Reading.{before_next, fault_at}
use Rattle.sj_grammar.specs.Positions.{Pieces, At, Begins}
use Rattle.sj_grammar.specs.Layers.{misfit}
use Rattle.sj_grammar.specs.Rules.{not_due, over_limit}
use Rattle.sj_grammar.specs.Viable.{IsViable}

-- a grammar, and its limits
pub record Grammar : Type 1 where
  -- the pieces are a whole text of it, limits aside
  pub IsWhole : Pieces → Type 0
  -- none of the pieces passes a limit
  pub IsWithin : Pieces → Type 0
  -- after the pieces this one passes a limit
  pub PassesLimit : Pieces → List ℕ → Type 0

module _ (G : Grammar) where
  -- what comes next breaks that rule: where no text of the grammar goes on so, where one does and
  -- a limit is passed, or where the text isn't whole
  abbrev pub IsWrongNext : Pieces → Ahead → Rule → Type 0
  IsWrongNext ps at_end rule = (rule ≡ not_due) × (G.IsWhole ps → ⊥)
  IsWrongNext ps (bad lexical rest) rule = rule ≡ lexical
  IsWrongNext ps (token what s rest) rule =
      ((rule ≡ misfit s) × (IsViable G.IsWhole (ps ++ s ∷ []) → ⊥)) ⊎ ((rule ≡ over_limit) × IsViable G.IsWhole (ps ++ s ∷ []) × G.PassesLimit ps s)

  -- From here on the text goes wrong there: up to there a text of the grammar can go on so,
  -- and no piece passes a limit.
  pub record GoesWrong (a : At) (f : Fault) : Type 0 where
    pub pieces : Pieces
    pub there : At
    pub front : Begins a pieces there
    pub viable : IsViable G.IsWhole pieces
    pub within : G.IsWithin pieces
    pub wrong : IsWrongNext pieces (next_of there.text.ahead) f.rule
    pub position : f ≡ fault_at (before_next there.text (next_of there.text.ahead)) f.rule
