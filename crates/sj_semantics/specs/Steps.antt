-- What each kind of step makes of a party.
use Rattle.std.specs.Prelude.{ℕ, zero, suc, ◌+◌, ◌==◌, Bool, false, List, [], ◌∷◌, Option, Some, None, option_and_then, unwrap_or, if◌then◌else◌}
use Rattle.sj_base.specs.declared.EndId.{EndId}
use Rattle.sj_base.specs.declared.Msg.{Msg}
use Rattle.sj_base.specs.declared.Msg.TheVariants as msgs
use Rattle.sj_lang.specs.Code.{Code, Branches, no_stmt, delegate, take_value, take_end, inbranch, outwhile, inwhile, relay, if_else, let_be, close, request, accept, no_branch, branch}
use Rattle.sj_semantics.specs.declared.Value.{Value}
use Rattle.sj_semantics.specs.Value.{Vars, with_value, value_of, worth, turns_of, truth_of}
use Rattle.sj_semantics.specs.Program.{Thing, statement, turns, passing, Program, block, ends_without, ends_with}

-- ---- a step without a message

-- the arm of an `if`, and then the rest
abbrev pub todo_after_local : Vars → List Thing → List Thing
todo_after_local vars (statement (if_else e first second) ∷ rest) =
    if unwrap_or (option_and_then truth_of (worth vars e)) false then block first rest else block second rest
todo_after_local vars (t ∷ rest) = rest
todo_after_local vars [] = []

-- the variables with that value under the name, where there is one
abbrev pub assigned_vars : Vars → ℕ → Option Value → Vars
assigned_vars vars n None = vars
assigned_vars vars n (Some v) = with_value vars n v

-- a `let` gives its variable the value
abbrev pub vars_after_local : Vars → List Thing → Vars
vars_after_local vars (statement (let_be n e) ∷ rest) = assigned_vars vars n (worth vars e)
vars_after_local vars _ = vars

-- the party after a step without a message
abbrev pub local_of : Program → Program
local_of g = record { todo = todo_after_local g.vars g.todo; vars = vars_after_local g.vars g.todo; ends = g.ends; steps = g.steps + 1; peers = g.peers }

-- ---- a step that sends

-- the turns that are left, and then the rest
abbrev pub turns_ahead : ℕ → ℕ → Code → List Thing → List Thing
turns_ahead x zero body rest = rest
turns_ahead x (suc n) body rest = block body (turns x n body ∷ rest)

-- a loop has one turn less; a relay that passed on more has its body and then itself to do
abbrev pub todo_after_sent : Vars → List Thing → List Thing
todo_after_sent vars (statement (outwhile x e body) ∷ rest) = turns_ahead x (unwrap_or (option_and_then turns_of (worth vars e)) 0) body rest
todo_after_sent vars (turns x n body ∷ rest) = turns_ahead x n body rest
todo_after_sent vars (passing x y more body ∷ rest) = if more then block body (statement (relay x y body) ∷ rest) else rest
todo_after_sent vars (t ∷ rest) = rest
todo_after_sent vars [] = []

-- a delegated end is no longer bound
abbrev pub ends_after_sent : List (ℕ × EndId) → List Thing → List (ℕ × EndId)
ends_after_sent ends (statement (delegate x y) ∷ rest) = ends_without ends y
ends_after_sent ends _ = ends

-- the party after a send or a delegation
abbrev pub sent_of : Program → Program
sent_of g = record { todo = todo_after_sent g.vars g.todo; vars = g.vars; ends = ends_after_sent g.ends g.todo; steps = g.steps + 1; peers = g.peers }

-- ---- a step that takes

-- the message says more
abbrev pub says_more : Msg → Bool
says_more (msgs.More b) = b
says_more _ = false

-- the arm of that label
abbrev pub arm_named : Branches → ℕ → Option Code
arm_named no_branch l = None
arm_named (branch m code arms) l = if m == l then Some code else arm_named arms l

-- the arm of the label that came
abbrev pub arm_taken : Branches → Msg → Code
arm_taken arms (msgs.Label l) = unwrap_or (arm_named arms l) no_stmt
arm_taken arms _ = no_stmt

-- an arm, a loop's body and then the loop, or what a relay passes on
abbrev pub todo_after_took : List Thing → Msg → List Thing
todo_after_took (statement (inbranch x arms) ∷ rest) m = block (arm_taken arms m) rest
todo_after_took (statement (inwhile x body) ∷ rest) m = if says_more m then block body (statement (inwhile x body) ∷ rest) else rest
todo_after_took (statement (relay x y body) ∷ rest) m = passing x y (says_more m) body ∷ rest
todo_after_took (t ∷ rest) m = rest
todo_after_took [] m = []

-- a value goes into its variable
abbrev pub vars_after_took : Vars → List Thing → Msg → Vars
vars_after_took vars (statement (take_value x n k) ∷ rest) m = assigned_vars vars n (value_of m)
vars_after_took vars _ m = vars

-- an end that was taken is bound at once
abbrev pub ends_after_took : List (ℕ × EndId) → List Thing → Msg → List (ℕ × EndId)
ends_after_took ends (statement (take_end x y p) ∷ rest) (msgs.Sess s d k) = ends_with ends y (record { sess = s; side = d })
ends_after_took ends _ m = ends

-- the party after it took the message
abbrev pub took_of : Program → Msg → Program
took_of g m = record { todo = todo_after_took g.todo m; vars = vars_after_took g.vars g.todo m; ends = ends_after_took g.ends g.todo m; steps = g.steps + 1; peers = g.peers }

-- ---- a step that closes

-- all but the first
abbrev pub rest_of : List Thing → List Thing
rest_of [] = []
rest_of (t ∷ rest) = rest

-- a closed end is no longer bound
abbrev pub ends_after_closed : List (ℕ × EndId) → List Thing → List (ℕ × EndId)
ends_after_closed ends (statement (close x) ∷ rest) = ends_without ends x
ends_after_closed ends _ = ends

-- the party after it closed an end
abbrev pub closed_of : Program → Program
closed_of g = record { todo = rest_of g.todo; vars = g.vars; ends = ends_after_closed g.ends g.todo; steps = g.steps + 1; peers = g.peers }

-- ---- a step that opens or accepts a session

-- the name under which the statement binds the end
abbrev pub name_opened : List Thing → ℕ
name_opened (statement (request x p b) ∷ rest) = x
name_opened (statement (accept x p b) ∷ rest) = x
name_opened _ = 0

-- the party after it opened or accepted a session: the end is bound
abbrev pub opened_of : Program → EndId → Program
opened_of g e = record { todo = rest_of g.todo; vars = g.vars; ends = ends_with g.ends (name_opened g.todo) e; steps = g.steps + 1; peers = g.peers }
