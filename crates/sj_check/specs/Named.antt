-- The ends that statements name, at any depth, and sameness at names.
use Rattle.std.specs.Prelude.{◌≡◌, ℕ, Bool, true, false, ◌&&◌, not, Option, Some, None, is_some, List, [], ◌∷◌, ◌++◌}
use Rattle.std.specs.Ordering.{nat_cmp}
use Rattle.std.specs.FinMap as map
use Rattle.std.specs.FinMap.{FinMap}
use Rattle.sj_lang.specs.Place.{Place}
use Rattle.sj_acceptance.specs.Sameness.{is_same_place}
use Rattle.sj_lang.specs.Code.{Code, StmtAt, DeedAt, Branches, no_stmt, stmt_then, at, send, delegate, take_value, take_end, outbranch, inbranch, outwhile, inwhile, relay, if_else, let_be, close, request, accept, no_branch, branch}

abbrev mutual
  -- the ends that a block names
  pub ends_named : Code → List ℕ
  ends_named no_stmt = []
  ends_named (stmt_then s code) = stmt_ends s ++ ends_named code

  pub stmt_ends : StmtAt → List ℕ
  stmt_ends (at line deed) = deed_ends deed

  pub deed_ends : DeedAt → List ℕ
  deed_ends (send x e) = x ∷ []
  deed_ends (delegate x y) = x ∷ y ∷ []
  deed_ends (take_value x n k) = x ∷ []
  deed_ends (take_end x y p) = x ∷ y ∷ []
  deed_ends (outbranch x l) = x ∷ []
  deed_ends (inbranch x bs) = x ∷ branch_ends bs
  deed_ends (outwhile x e body) = x ∷ ends_named body
  deed_ends (inwhile x body) = x ∷ ends_named body
  deed_ends (relay x y body) = x ∷ y ∷ ends_named body
  deed_ends (if_else e first second) = ends_named first ++ ends_named second
  deed_ends (let_be n e) = []
  deed_ends (close x) = x ∷ []
  deed_ends (request x p b) = x ∷ []
  deed_ends (accept x p b) = x ∷ []

  -- the ends that the arms name
  pub branch_ends : Branches → List ℕ
  branch_ends no_branch = []
  branch_ends (branch l code bs) = ends_named code ++ branch_ends bs

-- both have the same at all names but these
abbrev pub SameBeyond : (ℕ → Bool) → FinMap nat_cmp Place → FinMap nat_cmp Place → Type 0
SameBeyond is_named a b = (q : ℕ) → is_named q ≡ false → map.get a q ≡ map.get b q

-- there is no place twice, or the same
abbrev pub is_same_option : Option Place → Option Place → Bool
is_same_option None o = not (is_some o)
is_same_option (Some p) None = false
is_same_option (Some p) (Some q) = is_same_place p q

-- both maps have the same at these names
abbrev pub is_same_at : List ℕ → FinMap nat_cmp Place → FinMap nat_cmp Place → Bool
is_same_at [] a b = true
is_same_at (n ∷ ns) a b = is_same_option (map.get a n) (map.get b n) && is_same_at ns a b
