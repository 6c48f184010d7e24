-- What readers say of the fault at which they stop.
use Rattle.std.specs.Prelude.{◌≡◌, ℕ, false, List, if◌then◌else◌}
use Rattle.sj_grammar.specs.declared.tokens.Rule.{Rule}
use Rattle.sj_grammar.specs.declared.tokens.Fault.{Fault}
use Rattle.sj_grammar.specs.declared.refusal.ParseRefusal.{ParseRefusal}
use Rattle.sj_grammar.specs.declared.refusal.ParseRefusal.TheVariants as refusals
use Rattle.sj_lang.specs.Limits.{Limits}
use Rattle.sj_grammar.specs.Lexis.{Ahead, at_end, bad, token}
use Rattle.sj_grammar.specs.Literals.{is_largest}
use Rattle.sj_grammar.specs.Reading.{Reading, before_next, fault_at}
use Rattle.sj_grammar.specs.Positions.{At}
use Rattle.sj_grammar.specs.Layers.{Layer, may_end}
use Rattle.sj_grammar.specs.Faults.{Stuck}
use Rattle.sj_grammar.specs.Rules.{bad_number}

-- that rule is broken, but a token that can't be read at all, or 2^63, breaks its own before
abbrev pub first_rule : Rule → Ahead → Rule
first_rule rule at_end = rule
first_rule rule (bad lexical rest) = lexical
first_rule rule (token what s rest) = if is_largest s then bad_number else rule

-- what comes next breaks that rule
abbrev pub fault_next : Reading → Rule → Ahead → Fault
fault_next r rule ahead = fault_at (before_next r ahead) (first_rule rule ahead)

-- the fault is where what is due can't be left out, so that what is due later doesn't matter
pub record StuckInside {D : Type 0} (G : Layer D) (L : Limits) (n : ℕ) (a : At) (ds : List D) (f : Fault) : Type 0 where
  pub stuck : Stuck G L n a ds f
  pub inside : may_end G stuck.dues ≡ false

-- where the refusal is a fault
abbrev pub OnFault : (Fault → Type 0) → ParseRefusal → Type 0
OnFault P (refusals.At f) = P f
OnFault P refusals.NoMemory = Unit {0}
