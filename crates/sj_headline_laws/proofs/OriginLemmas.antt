-- What a program still has to open stands in its party's code.
use Rattle.std.proofs.Common.{ℕ, zero, suc, ◌==◌, Bool, true, false, cond, List, [], ◌∷◌, ◌++◌, Option, Some, option_and_then, unwrap_or}
use Rattle.std.specs.Bool.{⊤}
use Rattle.std.specs.List.{AllByRecursion}
use Rattle.sj_base.specs.declared.Msg.{Msg}
use Rattle.sj_base.specs.declared.Msg.TheVariants as msgs
use Rattle.sj_lang.specs.Code.{Code, DeedAt, Branches, no_stmt, stmt_then, at, send, delegate, take_value, take_end, outbranch, inbranch, outwhile, inwhile, relay, if_else, let_be, close, request, accept, no_branch, branch}
use Rattle.sj_acceptance.specs.Openings.{OpeningAt, as_request, as_accept, found_in, found_inside, found_in_arms}
use Rattle.sj_semantics.specs.Value.{Vars, worth, turns_of, truth_of}
use Rattle.sj_semantics.specs.Program.{Thing, statement, turns, passing, block}
use Rattle.sj_semantics.specs.Steps.{todo_after_local, turns_ahead, todo_after_sent, says_more, arm_named, arm_taken, todo_after_took, rest_of}

-- R holds of the protocol and the party of each request in the code, and A of those of each accept
module _ (R A : ℕ → ℕ → Type 0) where
  abbrev mutual
    pub InCode : Code → Type 0
    InCode no_stmt = ⊤
    InCode (stmt_then (at line act) code) = InDeed act × InCode code

    pub InDeed : DeedAt → Type 0
    InDeed (request x p b) = R p b
    InDeed (accept x p b) = A p b
    InDeed (inbranch x arms) = InArms arms
    InDeed (outwhile x e body) = InCode body
    InDeed (inwhile x body) = InCode body
    InDeed (relay x y body) = InCode body
    InDeed (if_else e first second) = InCode first × InCode second
    InDeed _ = ⊤

    pub InArms : Branches → Type 0
    InArms no_branch = ⊤
    InArms (branch l code arms) = InCode code × InArms arms

  abbrev pub InTodo : List Thing → Type 0
  InTodo [] = ⊤
  InTodo (statement act ∷ rest) = InDeed act × InTodo rest
  InTodo (turns x n body ∷ rest) = InCode body × InTodo rest
  InTodo (passing x y more body ∷ rest) = InCode body × InTodo rest

  pub in_block : (code : Code) (rest : List Thing) → InCode code → InTodo rest → InTodo (block code rest)
  in_block no_stmt rest c r = r
  in_block (stmt_then (at line act) code) rest c r = (c.0, in_block code rest c.1 r)

  -- ---- after a step

  in_one : (b : Bool) (first second : List Thing) → InTodo first → InTodo second → InTodo (cond b first second)
  in_one true first second f s = f
  in_one false first second f s = s

  in_behind : (todo : List Thing) → InTodo todo → InTodo (rest_of todo)
  in_behind [] h = tt
  in_behind (statement act ∷ rest) h = h.1
  in_behind (turns x n body ∷ rest) h = h.1
  in_behind (passing x y more body ∷ rest) h = h.1

  pub in_rest : (todo : List Thing) → InTodo todo → InTodo (rest_of todo)
  in_rest todo h = in_behind todo h

  pub in_local : (vars : Vars) (todo : List Thing) → InTodo todo → InTodo (todo_after_local vars todo)
  in_local vars (statement (if_else e first second) ∷ rest) h =
      in_one (unwrap_or (option_and_then truth_of (worth vars e)) false) (block first rest) (block second rest) (in_block first rest h.0.0 h.1) (in_block second rest h.0.1 h.1)
  in_local vars [] h = tt
  in_local vars (t ∷ rest) h = in_behind (t ∷ rest) h

  in_turns : (x n : ℕ) (body : Code) (rest : List Thing) → InCode body → InTodo rest → InTodo (turns_ahead x n body rest)
  in_turns x zero body rest c r = r
  in_turns x (suc n) body rest c r = in_block body (turns x n body ∷ rest) c (c, r)

  pub in_sent : (vars : Vars) (todo : List Thing) → InTodo todo → InTodo (todo_after_sent vars todo)
  in_sent vars (statement (outwhile x e body) ∷ rest) h = in_turns x (unwrap_or (option_and_then turns_of (worth vars e)) 0) body rest h.0 h.1
  in_sent vars (turns x n body ∷ rest) h = in_turns x n body rest h.0 h.1
  in_sent vars (passing x y more body ∷ rest) h = in_one more (block body (statement (relay x y body) ∷ rest)) rest (in_block body (statement (relay x y body) ∷ rest) h.0 h) h.1
  in_sent vars [] h = tt
  in_sent vars (t ∷ rest) h = in_behind (t ∷ rest) h

  in_arm : (arms : Branches) (l : ℕ) → InArms arms → InCode (unwrap_or (arm_named arms l) no_stmt)
  in_arm no_branch l h = tt
  in_arm (branch m code arms) l h = in_arm_if (m == l) code (arm_named arms l) h.0 (in_arm arms l h.1)
    where
      in_arm_if : (b : Bool) (code : Code) (o : Option Code) → InCode code → InCode (unwrap_or o no_stmt) → InCode (unwrap_or (cond b (Some code) o) no_stmt)
      in_arm_if true code o c r = c
      in_arm_if false code o c r = r

  in_taken : (arms : Branches) (m : Msg) → InArms arms → InCode (arm_taken arms m)
  in_taken arms (msgs.Label l) h = in_arm arms l h
  in_taken arms _ h = tt

  pub in_took : (todo : List Thing) (m : Msg) → InTodo todo → InTodo (todo_after_took todo m)
  in_took (statement (inbranch x arms) ∷ rest) m h = in_block (arm_taken arms m) rest (in_taken arms m h.0) h.1
  in_took (statement (inwhile x body) ∷ rest) m h = in_one (says_more m) (block body (statement (inwhile x body) ∷ rest)) rest (in_block body (statement (inwhile x body) ∷ rest) h.0 h) h.1
  in_took (statement (relay x y body) ∷ rest) m h = h
  in_took [] m h = tt
  in_took (t ∷ rest) m h = in_behind (t ∷ rest) h

  -- ---- the code

  abbrev OfRequest : OpeningAt → Type 0
  OfRequest r = R r.protocol r.party

  abbrev OfAccept : OpeningAt → Type 0
  OfAccept r = A r.protocol r.party

  all_parts : (P : OpeningAt → Type 0) (xs ys : List OpeningAt) → AllByRecursion P (xs ++ ys) → AllByRecursion P xs × AllByRecursion P ys
  all_parts P [] ys h = (tt, h)
  all_parts P (x ∷ xs) ys h = let r = all_parts P xs ys h.1 in ((h.0, r.0), r.1)

  all_three : (P : OpeningAt → Type 0) (xs ys zs : List OpeningAt) → AllByRecursion P (xs ++ ys ++ zs) → (AllByRecursion P xs × AllByRecursion P ys) × AllByRecursion P zs
  all_three P xs ys zs h = let r = all_parts P (xs ++ ys) zs h in (all_parts P xs ys r.0, r.1)

  mutual
    pub in_code : (code : Code) → AllByRecursion OfRequest (found_in as_request code) → AllByRecursion OfAccept (found_in as_accept code) → InCode code
    in_code no_stmt r a = tt
    in_code (stmt_then (at line act) code) r a =
        let s = all_three OfRequest (as_request line act) (found_inside as_request act) (found_in as_request code) r in
        let b = all_three OfAccept (as_accept line act) (found_inside as_accept act) (found_in as_accept code) a in
        (in_deed line act s.0.0 s.0.1 b.0.0 b.0.1, in_code code s.1 b.1)

    in_deed : (line : ℕ) (act : DeedAt) → AllByRecursion OfRequest (as_request line act) → AllByRecursion OfRequest (found_inside as_request act)
        → AllByRecursion OfAccept (as_accept line act) → AllByRecursion OfAccept (found_inside as_accept act) → InDeed act
    in_deed line (request x p b) r s a c = r.0
    in_deed line (accept x p b) r s a c = a.0
    in_deed line (inbranch x arms) r s a c = in_arms arms s c
    in_deed line (outwhile x e body) r s a c = in_code body s c
    in_deed line (inwhile x body) r s a c = in_code body s c
    in_deed line (relay x y body) r s a c = in_code body s c
    in_deed line (if_else e first second) r s a c =
        let f = all_parts OfRequest (found_in as_request first) (found_in as_request second) s in
        let g = all_parts OfAccept (found_in as_accept first) (found_in as_accept second) c in
        (in_code first f.0 g.0, in_code second f.1 g.1)
    in_deed line (send x e) r s a c = tt
    in_deed line (delegate x y) r s a c = tt
    in_deed line (take_value x n k) r s a c = tt
    in_deed line (take_end x y p) r s a c = tt
    in_deed line (outbranch x l) r s a c = tt
    in_deed line (let_be n e) r s a c = tt
    in_deed line (close x) r s a c = tt

    in_arms : (arms : Branches) → AllByRecursion OfRequest (found_in_arms as_request arms) → AllByRecursion OfAccept (found_in_arms as_accept arms) → InArms arms
    in_arms no_branch r a = tt
    in_arms (branch l code arms) r a =
        let s = all_parts OfRequest (found_in as_request code) (found_in_arms as_request arms) r in
        let b = all_parts OfAccept (found_in as_accept code) (found_in_arms as_accept arms) a in
        (in_code code s.0 b.0, in_arms arms s.1 b.1)
