-- A plain party: what it still has to do, and what it knows.
use Rattle.std.specs.Prelude.{ℕ, ◌==◌, Bool, not, List, [], ◌∷◌, ◌++◌, filter}
use Rattle.sj_base.specs.declared.EndId.{EndId}
use Rattle.sj_lang.specs.Code.{Code, DeedAt, no_stmt, stmt_then, at}
use Rattle.sj_semantics.specs.Value.{Vars}

-- a thing to do
pub data Thing : Type 0 where
  statement : DeedAt → Thing
  -- an `outwhile` on this end that still has so many turns
  turns : ℕ → ℕ → Code → Thing
  -- a `relay` between these ends that has taken more or stop and not yet passed it on
  passing : ℕ → ℕ → Bool → Code → Thing

-- a party does so many steps at most
abbrev pub limit_of_steps : ℕ
limit_of_steps = 10000

-- what is left to do, the values of variables, the ends bound to names, the steps done, and the
-- names of the file's parties in order
pub record Program : Type 0 where
  pub todo : List Thing
  pub vars : Vars
  pub ends : List (ℕ × EndId)
  pub steps : ℕ
  pub peers : List ℕ

-- the statements of a block, in order, and then the rest
abbrev pub block : Code → List Thing → List Thing
block no_stmt rest = rest
block (stmt_then (at line act) code) rest = statement act ∷ block code rest

-- the ends without the one under that name
abbrev pub ends_without : List (ℕ × EndId) → ℕ → List (ℕ × EndId)
ends_without bs n = filter (λ b. not (b.0 == n)) bs

-- the ends with this one under that name
abbrev pub ends_with : List (ℕ × EndId) → ℕ → EndId → List (ℕ × EndId)
ends_with bs n x = ends_without bs n ++ (n, x) ∷ []
