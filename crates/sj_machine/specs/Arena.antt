-- What the nodes of an arena stand for.
use Rattle.std.specs.Prelude.{◌≡◌, ℕ, suc, ◌<◌, List, [], ◌∷◌, ◌++◌, Option, Some, None, get_or, ⊤}
use Rattle.sj_lang.specs.CodeView.{term_of}
use Rattle.sj_lang.specs.Code.{Code, DeedAt, Branches, no_stmt, stmt_then, at, send, delegate, take_value, take_end, outbranch, inbranch, outwhile, inwhile, relay, if_else, let_be, close, request, accept, no_branch, branch}
use Rattle.sj_machine.specs.declared.arena.ArmAt.{ArmAt}
use Rattle.sj_machine.specs.declared.arena.Op.{Op}
use Rattle.sj_machine.specs.declared.arena.Op.TheVariants.{Send, Delegate, Take, TakeEnd, Select, Branch, OutWhile, InWhile, Relay, If, Let, Close, Request, Accept}
use Rattle.sj_machine.specs.declared.arena.CodeNode.{CodeNode}

-- the block that begins with that node, where these are the blocks that begin with each node
abbrev pub code_in : List Code → Option ℕ → Code
code_in codes None = no_stmt
code_in codes (Some i) = get_or codes i no_stmt

-- the arms of an `inbranch`
abbrev pub arms_in : List Code → List ArmAt → Branches
arms_in codes [] = no_branch
arms_in codes (a ∷ as') = branch a.label (code_in codes a.body) (arms_in codes as')

-- the statement of an operation
abbrev pub deed_in : List Code → Op → DeedAt
deed_in codes (Send x e) = send x (term_of e)
deed_in codes (Delegate x y) = delegate x y
deed_in codes (Take x n k) = take_value x n k
deed_in codes (TakeEnd x y p) = take_end x y p
deed_in codes (Select x l) = outbranch x l
deed_in codes (Branch x arms) = inbranch x (arms_in codes arms.items)
deed_in codes (OutWhile x e body) = outwhile x (term_of e) (code_in codes body)
deed_in codes (InWhile x body) = inwhile x (code_in codes body)
deed_in codes (Relay x y body) = relay x y (code_in codes body)
deed_in codes (If e first second) = if_else (term_of e) (code_in codes first) (code_in codes second)
deed_in codes (Let n e) = let_be n (term_of e)
deed_in codes (Close x) = close x
deed_in codes (Request x p b) = request x p b
deed_in codes (Accept x p b) = accept x p b

-- a node's statement, and the block after it
abbrev pub node_code : List Code → CodeNode → Code
node_code codes n = stmt_then (at n.line (deed_in codes n.op)) (code_in codes n.next)

-- the blocks that begin with each of these nodes, after those that there are
abbrev pub codes_from : List Code → List CodeNode → List Code
codes_from codes [] = codes
codes_from codes (n ∷ ns) = codes_from (codes ++ node_code codes n ∷ []) ns

-- the blocks that begin with each node, where each names only nodes before it
abbrev pub codes_of : List CodeNode → List Code
codes_of nodes = codes_from [] nodes

-- ---- nodes name only nodes before them

-- the block begins before node k
abbrev pub IsBelow : ℕ → Option ℕ → Type 0
IsBelow k None = ⊤
IsBelow k (Some i) = i < k

-- each arm's block does
abbrev pub AreBelow : ℕ → List ArmAt → Type 0
AreBelow k [] = ⊤
AreBelow k (a ∷ as') = IsBelow k a.body × AreBelow k as'

-- each block in the operation does
abbrev pub IsOpBelow : ℕ → Op → Type 0
IsOpBelow k (Branch x arms) = AreBelow k arms.items
IsOpBelow k (OutWhile x e body) = IsBelow k body
IsOpBelow k (InWhile x body) = IsBelow k body
IsOpBelow k (Relay x y body) = IsBelow k body
IsOpBelow k (If e first second) = IsBelow k first × IsBelow k second
IsOpBelow k _ = ⊤

-- each of these nodes, the first of them node k, names only nodes before it
abbrev pub IsBackward : ℕ → List CodeNode → Type 0
IsBackward k [] = ⊤
IsBackward k (n ∷ ns) = IsBelow k n.next × IsOpBelow k n.op × IsBackward (suc k) ns

-- nodes that others were appended to
pub record Grown (old new : List CodeNode) : Type 0 where
  pub back : IsBackward 0 new
  pub more : List CodeNode
  pub is : new ≡ old ++ more
