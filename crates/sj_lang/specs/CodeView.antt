-- What code that holds statements stands for: its block, apart from how it lies in memory.
use Rattle.std.specs.Prelude.{ℕ, List, [], ◌∷◌, map}
use Rattle.sj_lang.specs.declared.party.Deed.{Deed, fold-Deed}
use Rattle.sj_lang.specs.declared.party.Deed.TheOpen.{Deed-F, Stmt-F, StmtArm-F}
use Rattle.sj_lang.specs.declared.party.Stmt.{Stmt, fold-Stmt}
use Rattle.sj_lang.specs.declared.party.StmtArm.{StmtArm, fold-StmtArm}
use Rattle.sj_lang.specs.Term.{Term, boolean, int, not, text, two, var}
use Rattle.sj_lang.specs.Code.{Branches, Code, DeedAt, StmtAt, accept, at, branch, close, delegate, if_else, inbranch, inwhile, let_be, no_branch, no_stmt, outbranch, outwhile, relay, request, send, stmt_then, take_end, take_value}
use Rattle.sj_lang.specs.declared.party.Expr.{Expr, fold-Expr}
use Rattle.sj_lang.specs.declared.party.Expr.TheOpen.{Expr-F}

-- one level, with each expression inside already seen as its term
abbrev pub term_step : Expr-F Term → Term
term_step (Expr-F.Int n) = int n
term_step (Expr-F.Bool b) = boolean b
term_step (Expr-F.Text n) = text n
term_step (Expr-F.Var n) = var n
term_step (Expr-F.Not f) = not f.value
term_step (Expr-F.Two op f g) = two op f.value g.value

-- an expression
abbrev pub term_of : Expr → Term
term_of = fold-Expr Term term_step

-- the statements in order
abbrev pub in_order : List StmtAt → Code
in_order [] = no_stmt
in_order (s ∷ steps) = stmt_then s (in_order steps)

-- the arms in order
abbrev pub branches_of : List (ℕ × Code) → Branches
branches_of [] = no_branch
branches_of (b ∷ bs) = branch b.0 b.1 (branches_of bs)

-- one level of each, with what is inside already seen
abbrev pub deed_level : Deed-F DeedAt StmtAt (ℕ × Code) → DeedAt
deed_level (Deed-F.Send x e) = send x (term_of e)
deed_level (Deed-F.Delegate x y) = delegate x y
deed_level (Deed-F.Take x n k) = take_value x n k
deed_level (Deed-F.TakeEnd x y p) = take_end x y p
deed_level (Deed-F.Select x l) = outbranch x l
deed_level (Deed-F.Branch x arms) = inbranch x (branches_of arms.items)
deed_level (Deed-F.OutWhile x e body) = outwhile x (term_of e) (in_order body.items)
deed_level (Deed-F.InWhile x body) = inwhile x (in_order body.items)
deed_level (Deed-F.Relay x y body) = relay x y (in_order body.items)
deed_level (Deed-F.If e first second) = if_else (term_of e) (in_order first.items) (in_order second.items)
deed_level (Deed-F.Let n e) = let_be n (term_of e)
deed_level (Deed-F.Close x) = close x
deed_level (Deed-F.Request x p b) = request x p b
deed_level (Deed-F.Accept x p b) = accept x p b

abbrev pub stmt_level : Stmt-F DeedAt StmtAt (ℕ × Code) → StmtAt
stmt_level s = at s.line s.deed

abbrev pub arm_level : StmtArm-F DeedAt StmtAt (ℕ × Code) → ℕ × Code
arm_level a = (a.label, in_order a.body.items)

-- a statement, what is inside it seen
abbrev pub stmt_of : Stmt → StmtAt
stmt_of = fold-Stmt DeedAt StmtAt (ℕ × Code) deed_level stmt_level arm_level

-- what a statement does
abbrev pub deed_of : Deed → DeedAt
deed_of = fold-Deed DeedAt StmtAt (ℕ × Code) deed_level stmt_level arm_level

-- an arm, with its label
abbrev pub arm_of : StmtArm → ℕ × Code
arm_of = fold-StmtArm DeedAt StmtAt (ℕ × Code) deed_level stmt_level arm_level

-- a block of statements
abbrev pub code_of : List Stmt → Code
code_of stmts = in_order (map stmt_of stmts)
