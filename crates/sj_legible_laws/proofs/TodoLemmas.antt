-- What is left to do after a step of a program that knows only of the file.
use Rattle.std.proofs.Common.{ℕ, zero, suc, ◌==◌, Bool, true, false, cond, List, [], ◌∷◌, Some, option_and_then, unwrap_or, if◌then◌else◌}
use Rattle.sj_base.specs.declared.Msg.{Msg}
use Rattle.sj_base.specs.declared.Msg.TheVariants as msgs
use Rattle.sj_lang.specs.FileAt.{FileAt}
use Rattle.sj_lang.specs.Code.{Code, Branches, no_stmt, stmt_then, at, send, delegate, take_value, take_end, outbranch, inbranch, outwhile, inwhile, relay, if_else, let_be, close, request, accept, no_branch, branch}
use Rattle.sj_semantics.specs.Value.{Vars, worth, turns_of, truth_of}
use Rattle.sj_semantics.specs.Program.{Thing, statement, turns, passing, block}
use Rattle.sj_semantics.specs.Steps.{todo_after_local, turns_ahead, todo_after_sent, says_more, arm_named, arm_taken, todo_after_took, rest_of}
use Rattle.sj_legible_laws.proofs.CodeParts.{CodeTold, ArmsTold, ThingTold, ThingsTold}

module _ (file : FileAt) where
  pub block_told : (code : Code) (rest : List Thing) → CodeTold file code → ThingsTold file rest → ThingsTold file (block code rest)
  block_told no_stmt rest told later = later
  block_told (stmt_then (at line deed) code) rest told later = (told.0, block_told code rest told.1 later)

  chosen_told : (b : Bool) (first second : Code) (rest : List Thing) → CodeTold file first → CodeTold file second → ThingsTold file rest → ThingsTold file (if b then block first rest else block second rest)
  chosen_told true first second rest a b later = block_told first rest a later
  chosen_told false first second rest a b later = block_told second rest b later

  again_told : (b : Bool) (body : Code) (t : Thing) (rest : List Thing) → CodeTold file body → ThingTold file t → ThingsTold file rest → ThingsTold file (if b then block body (t ∷ rest) else rest)
  again_told true body t rest a own later = block_told body (t ∷ rest) a (own, later)
  again_told false body t rest a own later = later

  ahead_told : (x n : ℕ) (body : Code) (rest : List Thing) → CodeTold file body → ThingsTold file rest → ThingsTold file (turns_ahead x n body rest)
  ahead_told x zero body rest a later = later
  ahead_told x (suc n) body rest a later = block_told body (turns x n body ∷ rest) a (a, later)

  pub rest_told : (todo : List Thing) → ThingsTold file todo → ThingsTold file (rest_of todo)
  rest_told [] told = tt
  rest_told (t ∷ rest) told = told.1

  pub local_todo : (vars : Vars) (todo : List Thing) → ThingsTold file todo → ThingsTold file (todo_after_local vars todo)
  local_todo vars [] told = tt
  local_todo vars (statement (if_else e first second) ∷ rest) told = chosen_told (unwrap_or (option_and_then truth_of (worth vars e)) false) first second rest told.0.0 told.0.1 told.1
  local_todo vars (statement (send x e) ∷ rest) told = told.1
  local_todo vars (statement (delegate x y) ∷ rest) told = told.1
  local_todo vars (statement (take_value x n k) ∷ rest) told = told.1
  local_todo vars (statement (take_end x y p) ∷ rest) told = told.1
  local_todo vars (statement (outbranch x l) ∷ rest) told = told.1
  local_todo vars (statement (inbranch x arms) ∷ rest) told = told.1
  local_todo vars (statement (outwhile x e body) ∷ rest) told = told.1
  local_todo vars (statement (inwhile x body) ∷ rest) told = told.1
  local_todo vars (statement (relay x y body) ∷ rest) told = told.1
  local_todo vars (statement (let_be n e) ∷ rest) told = told.1
  local_todo vars (statement (close x) ∷ rest) told = told.1
  local_todo vars (statement (request x p b) ∷ rest) told = told.1
  local_todo vars (statement (accept x p b) ∷ rest) told = told.1
  local_todo vars (turns x n body ∷ rest) told = told.1
  local_todo vars (passing x y more body ∷ rest) told = told.1

  pub sent_todo : (vars : Vars) (todo : List Thing) → ThingsTold file todo → ThingsTold file (todo_after_sent vars todo)
  sent_todo vars [] told = tt
  sent_todo vars (statement (outwhile x e body) ∷ rest) told = ahead_told x (unwrap_or (option_and_then turns_of (worth vars e)) 0) body rest told.0 told.1
  sent_todo vars (turns x n body ∷ rest) told = ahead_told x n body rest told.0 told.1
  sent_todo vars (passing x y more body ∷ rest) told = again_told more body (statement (relay x y body)) rest told.0 told.0 told.1
  sent_todo vars (statement (if_else e first second) ∷ rest) told = told.1
  sent_todo vars (statement (send x e) ∷ rest) told = told.1
  sent_todo vars (statement (delegate x y) ∷ rest) told = told.1
  sent_todo vars (statement (take_value x n k) ∷ rest) told = told.1
  sent_todo vars (statement (take_end x y p) ∷ rest) told = told.1
  sent_todo vars (statement (outbranch x l) ∷ rest) told = told.1
  sent_todo vars (statement (inbranch x arms) ∷ rest) told = told.1
  sent_todo vars (statement (inwhile x body) ∷ rest) told = told.1
  sent_todo vars (statement (relay x y body) ∷ rest) told = told.1
  sent_todo vars (statement (let_be n e) ∷ rest) told = told.1
  sent_todo vars (statement (close x) ∷ rest) told = told.1
  sent_todo vars (statement (request x p b) ∷ rest) told = told.1
  sent_todo vars (statement (accept x p b) ∷ rest) told = told.1

  arm_told : (arms : Branches) (l : ℕ) → ArmsTold file arms → CodeTold file (unwrap_or (arm_named arms l) no_stmt)
  arm_told no_branch l told = tt
  arm_told (branch m code arms) l told = by (m == l) (arm_told arms l told.1)
    where
      by : (t : Bool) → CodeTold file (unwrap_or (arm_named arms l) no_stmt) → CodeTold file (unwrap_or (cond t (Some code) (arm_named arms l)) no_stmt)
      by true later = told.0
      by false later = later

  taken_arm : (arms : Branches) (m : Msg) → ArmsTold file arms → CodeTold file (arm_taken arms m)
  taken_arm arms (msgs.Label l) told = arm_told arms l told
  taken_arm arms (msgs.Int n) told = tt
  taken_arm arms (msgs.Bool b) told = tt
  taken_arm arms (msgs.Text n) told = tt
  taken_arm arms (msgs.More b) told = tt
  taken_arm arms (msgs.Sess s d k) told = tt

  pub took_todo : (todo : List Thing) (m : Msg) → ThingsTold file todo → ThingsTold file (todo_after_took todo m)
  took_todo [] m told = tt
  took_todo (statement (inbranch x arms) ∷ rest) m told = block_told (arm_taken arms m) rest (taken_arm arms m told.0) told.1
  took_todo (statement (inwhile x body) ∷ rest) m told = again_told (says_more m) body (statement (inwhile x body)) rest told.0 told.0 told.1
  took_todo (statement (relay x y body) ∷ rest) m told = (told.0, told.1)
  took_todo (statement (outwhile x e body) ∷ rest) m told = told.1
  took_todo (statement (if_else e first second) ∷ rest) m told = told.1
  took_todo (statement (send x e) ∷ rest) m told = told.1
  took_todo (statement (delegate x y) ∷ rest) m told = told.1
  took_todo (statement (take_value x n k) ∷ rest) m told = told.1
  took_todo (statement (take_end x y p) ∷ rest) m told = told.1
  took_todo (statement (outbranch x l) ∷ rest) m told = told.1
  took_todo (statement (let_be n e) ∷ rest) m told = told.1
  took_todo (statement (close x) ∷ rest) m told = told.1
  took_todo (statement (request x p b) ∷ rest) m told = told.1
  took_todo (statement (accept x p b) ∷ rest) m told = told.1
  took_todo (turns x n body ∷ rest) m told = told.1
  took_todo (passing x y more body ∷ rest) m told = told.1
