-- The requests and the accepts in a party's code.
use Rattle.std.specs.Prelude.{ℕ, List, [], ◌∷◌, ◌++◌}
use Rattle.sj_lang.specs.Code.{Code, DeedAt, Branches, no_stmt, stmt_then, at, inbranch, outwhile, inwhile, relay, if_else, request, accept, no_branch, branch}

-- its line, and its protocol and its other party by their names
pub record OpeningAt : Type 0 where
  pub line : ℕ
  pub protocol : ℕ
  pub party : ℕ

abbrev pub as_request : ℕ → DeedAt → List OpeningAt
as_request line (request x p b) = record { line = line; protocol = p; party = b } ∷ []
as_request line _ = []

abbrev pub as_accept : ℕ → DeedAt → List OpeningAt
as_accept line (accept x p b) = record { line = line; protocol = p; party = b } ∷ []
as_accept line _ = []

abbrev mutual
  -- what f finds in the statements of a block and of those inside it, in the order of the text
  pub found_in : (ℕ → DeedAt → List OpeningAt) → Code → List OpeningAt
  found_in f no_stmt = []
  found_in f (stmt_then (at line act) code) = f line act ++ found_inside f act ++ found_in f code

  pub found_inside : (ℕ → DeedAt → List OpeningAt) → DeedAt → List OpeningAt
  found_inside f (inbranch x arms) = found_in_arms f arms
  found_inside f (outwhile x e body) = found_in f body
  found_inside f (inwhile x body) = found_in f body
  found_inside f (relay x y body) = found_in f body
  found_inside f (if_else e first second) = found_in f first ++ found_in f second
  found_inside f _ = []

  pub found_in_arms : (ℕ → DeedAt → List OpeningAt) → Branches → List OpeningAt
  found_in_arms f no_branch = []
  found_in_arms f (branch l code arms) = found_in f code ++ found_in_arms f arms

abbrev pub requests_of : Code → List OpeningAt
requests_of code = found_in as_request code

abbrev pub accepts_of : Code → List OpeningAt
accepts_of code = found_in as_accept code
