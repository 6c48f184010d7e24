-- What is due at a token, as a list: the first of it comes first.
-- A token takes a due away, and puts others in its place.
use Rattle.std.specs.Prelude.{ℕ, Bool, true, ◌&&◌, List, [], ◌∷◌, ◌++◌, Option, Some, None, if◌then◌else◌}
use Rattle.sj_grammar.specs.declared.tokens.Rule.{Rule}
use Rattle.sj_lang.specs.Limits.{Limits}
use Rattle.sj_grammar.specs.Literals.{is_largest}
use Rattle.sj_grammar.specs.Positions.{Pieces}
use Rattle.sj_grammar.specs.Rules.{bad_number, not_due, over_limit}

-- what tokens do to a kind of dues
pub record Layer (D : Type 0) : Type 0 where
  -- what is due after a token; None where the due doesn't take it
  pub follow : D → List ℕ → Option (List D)
  -- nothing may stand in its place
  pub may_be_none : D → Bool
  -- how many items of the protocol, or operands of the expression, there are after a token
  -- that the due takes
  pub counted : ℕ → D → List ℕ → ℕ
  -- that token is one too many, too deep or too long
  pub passes : Limits → ℕ → D → List ℕ → Bool

-- where a token leads
pub data Step (D : Type 0) : Type 0 where
  -- so many are counted, and that is due
  goes : ℕ → List D → Step D
  stops : Rule → Step D

abbrev pub rule_of : {D : Type 0} → Step D → Option Rule
rule_of (goes n es) = None
rule_of (stops rule) = Some rule

-- the rule that a token breaks where no due takes it
abbrev pub misfit : List ℕ → Rule
misfit s = if is_largest s then bad_number else not_due

-- where a due doesn't take a token, the others are asked
abbrev pub instead : {D : Type 0} → Option (List D) → Bool → ℕ → List D → Step D → Step D
instead None over n ds others = others
instead (Some es) over n ds others = if over then stops over_limit else goes n (es ++ ds)

abbrev pub onward : {D : Type 0} → Step D → (ℕ → List D → Step D) → Step D
onward (goes n es) f = f n es
onward (stops rule) f = stops rule

module _ {D : Type 0} (G : Layer D) (L : Limits) where
  -- the first due that takes the token; in place of those before it nothing may stand
  abbrev pub step : ℕ → List D → List ℕ → Step D
  step n [] s = stops (misfit s)
  step n (d ∷ ds) s = instead (G.follow d s) (G.passes L n d s) (G.counted n d s) ds (if G.may_be_none d then step n ds s else stops (misfit s))

  -- tokens one after another
  abbrev pub run : ℕ → List D → Pieces → Step D
  run n ds [] = goes n ds
  run n ds (s ∷ ps) = onward (step n ds s) (λ m es. run m es ps)

-- the text may end there
abbrev pub may_end : {D : Type 0} → Layer D → List D → Bool
may_end G [] = true
may_end G (d ∷ ds) = G.may_be_none d && may_end G ds
