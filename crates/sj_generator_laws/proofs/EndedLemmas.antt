-- Worlds in which all parties have ended.
use Rattle.std.proofs.Common.{◌≡◌, ℕ, zero, suc, nat_lt, Bool, true, false, cond, List, [], ◌∷◌, slice_get, Option, None, option_map, option_and_then, refl, ap, ◌∙◌}
use Rattle.sj_semantics.specs.Program.{Program}
use Rattle.sj_semantics.specs.State.{IsSettled}
use Rattle.sj_semantics.specs.Wants.{want_of_todo}
use Rattle.sj_semantics.specs.World.{World, Change, change_by, change_of_program, changed_world}

-- none of them has anything left to do
abbrev pub HaveEnded : List Program → Type 0
HaveEnded [] = Unit {0}
HaveEnded (g ∷ gs) = (g.todo ≡ []) × HaveEnded gs

same_both_ways : (b : Bool) (o : Option Change) → cond b o o ≡ o
same_both_ways true o = refl
same_both_ways false o = refl

no_change : (w : World) (p : ℕ) (g : Program) → g.todo ≡ [] → change_of_program w p g ≡ None
no_change w p g over =
    ap (λ t. cond (nat_lt g.steps 10000) (option_and_then (change_by w p g) (want_of_todo g.peers g.vars g.ends t)) None) over ∙ same_both_ways (nat_lt g.steps 10000) None

no_change_at : (w : World) (p i : ℕ) (gs : List Program) → HaveEnded gs → option_and_then (change_of_program w p) (slice_get gs i) ≡ None
no_change_at w p i [] over = refl
no_change_at w p zero (g ∷ gs) over = no_change w p g over.0
no_change_at w p (suc i) (g ∷ gs) over = no_change_at w p i gs over.1

pub ended_is_settled : (w : World) → HaveEnded w.parties → IsSettled w
ended_is_settled w over = λ p. ap (option_map (changed_world w p)) (no_change_at w p p w.parties over)
