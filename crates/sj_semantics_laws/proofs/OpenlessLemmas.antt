-- Where no code requests or accepts, no session is opened.
use Rattle.std.proofs.Common.{◌≡◌, ℕ, zero, suc, ◌==◌, Bool, true, false, cond, List, [], ◌∷◌, Option, Some, None, option_map, option_and_then, unwrap_or, sym, subst, inl, inr}
use Rattle.std.specs.Bool.{⊤}
use Rattle.std.proofs.lemmas.Bool.{cases_Bool}
use Rattle.sj_base.specs.declared.EndId.{EndId}
use Rattle.sj_base.specs.declared.Msg.{Msg}
use Rattle.sj_base.specs.declared.Msg.TheVariants as msgs
use Rattle.sj_lang.specs.Code.{Code, DeedAt, Branches, no_stmt, stmt_then, at, send, delegate, take_value, take_end, outbranch, inbranch, outwhile, inwhile, relay, if_else, let_be, close, request, accept, no_branch, branch}
use Rattle.sj_lang.specs.FileAt.{named}
use Rattle.sj_semantics.specs.declared.Awaits.{Awaits}
use Rattle.sj_semantics.specs.declared.Want.{Want}
use Rattle.sj_semantics.specs.declared.Want.TheVariants as wants
use Rattle.sj_semantics.specs.Value.{Vars, worth, turns_of, truth_of}
use Rattle.sj_semantics.specs.Program.{Program, Thing, statement, turns, passing, block}
use Rattle.sj_semantics.specs.Steps.{todo_after_local, turns_ahead, todo_after_sent, says_more, arm_named, arm_taken, todo_after_took, rest_of}
use Rattle.sj_semantics.specs.Wants.{want_send, want_delegate, want_take, want_of_deed, want_of_todo, want_of}
use Rattle.sj_semantics_laws.specs.Openless.{OpensNone, DeedOpensNone, ArmsOpenNone, TodoOpensNone}

-- ---- what is to do after a step

pub block_opens_none : (code : Code) (rest : List Thing) → OpensNone code → TodoOpensNone rest → TodoOpensNone (block code rest)
block_opens_none no_stmt rest none more = more
block_opens_none (stmt_then (at line act) code) rest none more = (none.0, block_opens_none code rest none.1 more)

if_opens_none : (b : Bool) (first second rest : List Thing) → TodoOpensNone first → TodoOpensNone second → TodoOpensNone (cond b first second)
if_opens_none true first second rest one other = one
if_opens_none false first second rest one other = other

tail_opens_none : (t : Thing) (rest : List Thing) → TodoOpensNone (t ∷ rest) → TodoOpensNone rest
tail_opens_none (statement act) rest none = none.1
tail_opens_none (turns x n body) rest none = none.1
tail_opens_none (passing x y more body) rest none = none.1

pub local_opens_none : (vars : Vars) (todo : List Thing) → TodoOpensNone todo → TodoOpensNone (todo_after_local vars todo)
local_opens_none vars [] none = tt
local_opens_none vars (statement (if_else e first second) ∷ rest) none =
    if_opens_none (unwrap_or (option_and_then truth_of (worth vars e)) false) (block first rest) (block second rest) rest (block_opens_none first rest none.0.0 none.1) (block_opens_none second rest none.0.1 none.1)
local_opens_none vars (t ∷ rest) none = tail_opens_none t rest none

turns_open_none : (x n : ℕ) (body : Code) (rest : List Thing) → OpensNone body → TodoOpensNone rest → TodoOpensNone (turns_ahead x n body rest)
turns_open_none x zero body rest none more = more
turns_open_none x (suc n) body rest none more = block_opens_none body (turns x n body ∷ rest) none (none, more)

pub sent_opens_none : (vars : Vars) (todo : List Thing) → TodoOpensNone todo → TodoOpensNone (todo_after_sent vars todo)
sent_opens_none vars [] none = tt
sent_opens_none vars (statement (outwhile x e body) ∷ rest) none = turns_open_none x (unwrap_or (option_and_then turns_of (worth vars e)) 0) body rest none.0 none.1
sent_opens_none vars (turns x n body ∷ rest) none = turns_open_none x n body rest none.0 none.1
sent_opens_none vars (passing x y more body ∷ rest) none =
    if_opens_none more (block body (statement (relay x y body) ∷ rest)) rest rest (block_opens_none body (statement (relay x y body) ∷ rest) none.0 (none.0, none.1)) none.1
sent_opens_none vars (t ∷ rest) none = tail_opens_none t rest none

code_opens_none : (arms : Branches) (l : ℕ) → ArmsOpenNone arms → OpensNone (unwrap_or (arm_named arms l) no_stmt)
code_opens_none no_branch l none = tt
code_opens_none (branch m code arms) l none =
    elim (cases_Bool (m == l)) [
      | inl it ↦ subst (λ (b : Bool). OpensNone (unwrap_or (cond b (Some code) (arm_named arms l)) no_stmt)) (sym it) none.0
      | inr other ↦ subst (λ (b : Bool). OpensNone (unwrap_or (cond b (Some code) (arm_named arms l)) no_stmt)) (sym other) (code_opens_none arms l none.1)
    ]

arm_opens_none : (arms : Branches) (m : Msg) → ArmsOpenNone arms → OpensNone (arm_taken arms m)
arm_opens_none arms (msgs.Label l) none = code_opens_none arms l none
arm_opens_none arms (msgs.Int n) none = tt
arm_opens_none arms (msgs.Bool b) none = tt
arm_opens_none arms (msgs.Text n) none = tt
arm_opens_none arms (msgs.More b) none = tt
arm_opens_none arms (msgs.Sess s d k) none = tt

pub took_opens_none : (todo : List Thing) (m : Msg) → TodoOpensNone todo → TodoOpensNone (todo_after_took todo m)
took_opens_none [] m none = tt
took_opens_none (statement (inbranch x arms) ∷ rest) m none = block_opens_none (arm_taken arms m) rest (arm_opens_none arms m none.0) none.1
took_opens_none (statement (inwhile x body) ∷ rest) m none =
    if_opens_none (says_more m) (block body (statement (inwhile x body) ∷ rest)) rest rest (block_opens_none body (statement (inwhile x body) ∷ rest) none.0 (none.0, none.1)) none.1
took_opens_none (statement (relay x y body) ∷ rest) m none = (none.0, none.1)
took_opens_none (t ∷ rest) m none = tail_opens_none t rest none

pub rest_opens_none : (todo : List Thing) → TodoOpensNone todo → TodoOpensNone (rest_of todo)
rest_opens_none [] none = tt
rest_opens_none (t ∷ rest) none = tail_opens_none t rest none

-- ---- the next step

-- it is no request and no accept
abbrev pub IsNoOpening : Want → Type 0
IsNoOpening (wants.Request n q) = ⊥
IsNoOpening (wants.Accept n q) = ⊥
IsNoOpening _ = ⊤

abbrev NoOpeningIf : Option Want → Type 0
NoOpeningIf None = ⊤
NoOpeningIf (Some want) = IsNoOpening want

send_no_opening : (o : Option EndId) (m : Option Msg) → NoOpeningIf (want_send o m)
send_no_opening (Some e) (Some m) = tt
send_no_opening (Some e) None = tt
send_no_opening None m = tt

delegate_no_opening : (o q : Option EndId) → NoOpeningIf (want_delegate o q)
delegate_no_opening (Some e) (Some y) = tt
delegate_no_opening (Some e) None = tt
delegate_no_opening None q = tt

take_no_opening : (o : Option EndId) (a : Awaits) → NoOpeningIf (want_take o a)
take_no_opening (Some e) a = tt
take_no_opening None a = tt

close_no_opening : (o : Option EndId) → NoOpeningIf (option_map wants.Close o)
close_no_opening (Some e) = tt
close_no_opening None = tt

local_no_opening : {X : Type 0} (o : Option X) → NoOpeningIf (option_map (λ v. wants.Local) o)
local_no_opening (Some x) = tt
local_no_opening None = tt

deed_no_opening : (peers : List ℕ) (vars : Vars) (ends : List (ℕ × EndId)) (act : DeedAt) → DeedOpensNone act → NoOpeningIf (want_of_deed peers vars ends act)
deed_no_opening peers vars ends (send x e) none = send_no_opening (named ends x) _
deed_no_opening peers vars ends (delegate x y) none = delegate_no_opening (named ends x) (named ends y)
deed_no_opening peers vars ends (take_value x n k) none = take_no_opening (named ends x) _
deed_no_opening peers vars ends (take_end x y p) none = take_no_opening (named ends x) _
deed_no_opening peers vars ends (outbranch x l) none = send_no_opening (named ends x) _
deed_no_opening peers vars ends (inbranch x arms) none = take_no_opening (named ends x) _
deed_no_opening peers vars ends (outwhile x e body) none = send_no_opening (named ends x) _
deed_no_opening peers vars ends (inwhile x body) none = take_no_opening (named ends x) _
deed_no_opening peers vars ends (relay x y body) none = take_no_opening (named ends x) _
deed_no_opening peers vars ends (if_else e first second) none = local_no_opening (option_and_then truth_of (worth vars e))
deed_no_opening peers vars ends (let_be n e) none = local_no_opening (worth vars e)
deed_no_opening peers vars ends (close x) none = close_no_opening (named ends x)
deed_no_opening peers vars ends (request x p b) none = absurd none
deed_no_opening peers vars ends (accept x p b) none = absurd none

todo_no_opening : (peers : List ℕ) (vars : Vars) (ends : List (ℕ × EndId)) (todo : List Thing) → TodoOpensNone todo → NoOpeningIf (want_of_todo peers vars ends todo)
todo_no_opening peers vars ends [] none = tt
todo_no_opening peers vars ends (statement act ∷ rest) none = deed_no_opening peers vars ends act none.0
todo_no_opening peers vars ends (turns x n body ∷ rest) none = send_no_opening (named ends x) _
todo_no_opening peers vars ends (passing x y more body ∷ rest) none = send_no_opening (named ends y) _

pub want_no_opening : (g : Program) (want : Want) → TodoOpensNone g.todo → want_of g ≡ Some want → IsNoOpening want
want_no_opening g want none h = subst NoOpeningIf h (todo_no_opening g.peers g.vars g.ends g.todo none)
