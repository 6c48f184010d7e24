-- Steps that open or accept a session.
use Rattle.std.specs.Prelude.{ℕ, Bool, true, false, List, ◌∷◌}
use Rattle.sj_base.specs.declared.EndId.{EndId}
use Rattle.sj_lang.specs.Code.{request, accept}
use Rattle.sj_semantics.specs.declared.Want.{Want}
use Rattle.sj_semantics.specs.declared.Want.TheVariants as wants
use Rattle.sj_semantics.specs.Program.{Thing, statement, ends_with}

-- the step opens or accepts a session
abbrev pub is_opening : Want → Bool
is_opening (wants.Request p q) = true
is_opening (wants.Accept p q) = true
is_opening _ = false

-- the end is bound where the first thing to do opens or accepts a session
abbrev pub ends_after_opened : List (ℕ × EndId) → List Thing → EndId → List (ℕ × EndId)
ends_after_opened ends (statement (request x p b) ∷ rest) e = ends_with ends x e
ends_after_opened ends (statement (accept x p b) ∷ rest) e = ends_with ends x e
ends_after_opened ends _ e = ends
