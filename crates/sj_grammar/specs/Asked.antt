-- What a reader asks of the next token, and how it refuses it.
use Rattle.std.specs.Prelude.{◌≡◌, ℕ, Bool, false, ◌||◌, nat_lt, List, [], length, Option, Some, None, if◌then◌else◌}
use Rattle.std.specs.Str.{bytes_eq}
use Rattle.sj_grammar.specs.declared.tokens.What.{What}
use Rattle.sj_grammar.specs.declared.tokens.Rule.{Rule}
use Rattle.sj_grammar.specs.declared.tokens.Fault.{Fault}
use Rattle.sj_lang.specs.Limits.{limits}
use Rattle.sj_grammar.specs.Lexis.{Ahead, at_end, bad, token, next_of}
use Rattle.sj_grammar.specs.Names.{is_name}
use Rattle.sj_grammar.specs.Literals.{is_largest}
use Rattle.sj_grammar.specs.Reading.{Reading, passed, before_next, fault_at}
use Rattle.sj_grammar.specs.Layers.{Layer}
use Rattle.sj_grammar.specs.Rules.{bad_number, not_due, over_limit}

-- the next token is spelled so, and the text is then read up to there
pub record TakesText (r : Reading) (s : List ℕ) (t : Reading) : Type 0 where
  pub what : What
  pub rest : List ℕ
  pub token : next_of r.ahead ≡ token what s rest
  pub there : t ≡ record { before = passed r rest; ahead = rest }

abbrev pub is_next : List ℕ → Ahead → Bool
is_next s at_end = false
is_next s (bad rule rest) = false
is_next s (token what t rest) = bytes_eq t s

-- what the next token is spelled as
abbrev pub spelled_next : Ahead → List ℕ
spelled_next at_end = []
spelled_next (bad rule rest) = []
spelled_next (token what s rest) = s

-- the rule that what comes next breaks, where p says which tokens break one
abbrev pub refused : (List ℕ → Option Rule) → Ahead → Option Rule
refused p at_end = Some not_due
refused p (bad lexical rest) = Some lexical
refused p (token what s rest) = if is_largest s then Some bad_number else p s

-- the fault is that what comes next breaks a rule
pub record Refuses (p : List ℕ → Option Rule) (r : Reading) (f : Fault) : Type 0 where
  pub rule : Rule
  pub refused : refused p (next_of r.ahead) ≡ Some rule
  pub fault : f ≡ fault_at (before_next r (next_of r.ahead)) rule

-- any other token
abbrev pub but : List ℕ → List ℕ → Option Rule
but spelled s = if bytes_eq s spelled then None else Some not_due

-- no name, or one too many, or too long
abbrev pub but_name : Bool → List ℕ → Option Rule
but_name full s = if is_name s then (if full || nat_lt limits.name (length s) then Some over_limit else None) else Some not_due

-- what comes next is no token that the due would take
abbrev pub Passes : {D : Type 0} → Layer D → D → Ahead → Type 0
Passes G d at_end = Unit {0}
Passes G d (bad lexical rest) = Unit {0}
Passes G d (token what s rest) = G.follow d s ≡ None
