-- Code in which no session is requested or accepted.
use Rattle.std.specs.Prelude.{◌≡◌, ℕ, List, [], ◌∷◌, slice_get, Some, ⊤}
use Rattle.sj_lang.specs.Code.{Code, DeedAt, Branches, no_stmt, stmt_then, at, inbranch, outwhile, inwhile, relay, if_else, request, accept, no_branch, branch}
use Rattle.sj_lang.specs.FileAt.{FileAt, PartyAt}
use Rattle.sj_semantics.specs.Program.{Thing, statement, turns, passing}

abbrev mutual
  -- no statement of the block requests or accepts, nor one inside it
  pub OpensNone : Code → Type 0
  OpensNone no_stmt = ⊤
  OpensNone (stmt_then (at line act) code) = DeedOpensNone act × OpensNone code

  pub DeedOpensNone : DeedAt → Type 0
  DeedOpensNone (request x p b) = ⊥
  DeedOpensNone (accept x p b) = ⊥
  DeedOpensNone (inbranch x arms) = ArmsOpenNone arms
  DeedOpensNone (outwhile x e body) = OpensNone body
  DeedOpensNone (inwhile x body) = OpensNone body
  DeedOpensNone (relay x y body) = OpensNone body
  DeedOpensNone (if_else e first second) = OpensNone first × OpensNone second
  DeedOpensNone _ = ⊤

  pub ArmsOpenNone : Branches → Type 0
  ArmsOpenNone no_branch = ⊤
  ArmsOpenNone (branch l code arms) = OpensNone code × ArmsOpenNone arms

-- so it is with what is still to do
abbrev pub TodoOpensNone : List Thing → Type 0
TodoOpensNone [] = ⊤
TodoOpensNone (statement act ∷ rest) = DeedOpensNone act × TodoOpensNone rest
TodoOpensNone (turns x n body ∷ rest) = OpensNone body × TodoOpensNone rest
TodoOpensNone (passing x y more body ∷ rest) = OpensNone body × TodoOpensNone rest

-- no party of the file requests or accepts
pub record IsOpenless (file : FileAt) : Type 0 where
  pub none : (p : ℕ) (q : PartyAt) → slice_get file.parties p ≡ Some q → OpensNone q.code
