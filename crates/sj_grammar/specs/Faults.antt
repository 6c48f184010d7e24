-- The first fault of a text.
use Rattle.std.specs.Prelude.{◌≡◌, ℕ, List, Option, Some, None, if◌then◌else◌}
use Rattle.sj_grammar.specs.declared.tokens.Rule.{Rule}
use Rattle.sj_grammar.specs.declared.tokens.Fault.{Fault}
use Rattle.sj_lang.specs.Limits.{Limits}
use Rattle.sj_grammar.specs.Lexis.{Ahead, at_end, bad, token, next_of}
use Rattle.sj_grammar.specs.Reading.{before_next, fault_at}
use Rattle.sj_grammar.specs.Positions.{Pieces, At, Begins}
use Rattle.sj_grammar.specs.Layers.{Layer, goes, step, run, may_end, rule_of}
use Rattle.sj_grammar.specs.Rules.{not_due}

module _ {D : Type 0} (G : Layer D) (L : Limits) where
  -- the rule that what comes next breaks
  abbrev pub broken : ℕ → List D → Ahead → Option Rule
  broken n ds at_end = if may_end G ds then None else Some not_due
  broken n ds (bad lexical rest) = Some lexical
  broken n ds (token what s rest) = rule_of (step G L n ds s)

  -- what comes next is the fault
  pub record Halts (n : ℕ) (a : At) (ds : List D) (f : Fault) : Type 0 where
    pub rule : Rule
    pub breaks : broken n ds (next_of a.text.ahead) ≡ Some rule
    pub fault : f ≡ fault_at (before_next a.text (next_of a.text.ahead)) rule

  -- some tokens are taken, and what comes next is the fault
  pub record Stuck (n : ℕ) (a : At) (ds : List D) (f : Fault) : Type 0 where
    pub pieces : Pieces
    pub there : At
    pub count : ℕ
    pub dues : List D
    pub front : Begins a pieces there
    pub fits : run G L n ds pieces ≡ goes count dues
    pub halts : Halts count there dues f
