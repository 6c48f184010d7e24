-- What the views of expressions and statements are, one level at a time.
use Rattle.std.proofs.Common.{◌≡◌, ℕ, ℤ, Bool, map, Vec}
use Rattle.std.specs.declared.alloc.Global.{Global}
use Rattle.std.specs.declared.boxed.Box.{Box}
use Rattle.sj_lang.specs.declared.party.Op.{Op}
use Rattle.sj_lang.specs.declared.party.Scalar.{Scalar}
use Rattle.sj_lang.specs.declared.party.Expr as expr
use Rattle.sj_lang.specs.declared.party.Expr.{Expr}
use Rattle.sj_lang.specs.declared.party.Expr.TheVariants as exprs
use Rattle.sj_lang.specs.declared.party.Expr.TheOpen.{Expr-F}
use Rattle.sj_lang.specs.declared.party.Expr.TheFolds.{fold-roll-Expr}
use Rattle.sj_lang.specs.declared.party.Deed as deed
use Rattle.sj_lang.specs.declared.party.Deed.TheVariants as deeds
use Rattle.sj_lang.specs.declared.party.Deed.TheOpen.{Deed-F}
use Rattle.sj_lang.specs.declared.party.Deed.TheFolds.{fold-roll-Deed, fold_out-Stmt, fold_out-StmtArm}
use Rattle.sj_lang.specs.declared.party.Stmt.{Stmt}
use Rattle.sj_lang.specs.declared.party.StmtArm.{StmtArm, out-StmtArm}
use Rattle.sj_lang.specs.Code as code
use Rattle.sj_lang.specs.Code.{Code, StmtAt, DeedAt, at}
use Rattle.sj_lang.specs.CodeView.{branches_of, code_of, stmt_of, deed_of, arm_of, deed_level, stmt_level, arm_level, term_of, term_step}
use Rattle.sj_lang.specs.Term as term
use Rattle.sj_lang.specs.Term.{Term}

pub term_of-Int : (n : ℤ) → term_of (exprs.Int n) ≡ term.int n
unfolding expr.roll-Expr denote.Hole.Carrier.roll
term_of-Int n = fold-roll-Expr Term term_step (Expr-F.Int n)

pub term_of-Bool : (b : Bool) → term_of (exprs.Bool b) ≡ term.boolean b
unfolding expr.roll-Expr denote.Hole.Carrier.roll
term_of-Bool b = fold-roll-Expr Term term_step (Expr-F.Bool b)

pub term_of-Text : (n : ℕ) → term_of (exprs.Text n) ≡ term.text n
unfolding expr.roll-Expr denote.Hole.Carrier.roll
term_of-Text n = fold-roll-Expr Term term_step (Expr-F.Text n)

pub term_of-Var : (n : ℕ) → term_of (exprs.Var n) ≡ term.var n
unfolding expr.roll-Expr denote.Hole.Carrier.roll
term_of-Var n = fold-roll-Expr Term term_step (Expr-F.Var n)

pub term_of-Not : (b : Box Expr Global) → term_of (exprs.Not b) ≡ term.not (term_of b.value)
unfolding expr.roll-Expr denote.Hole.Carrier.roll
term_of-Not b = fold-roll-Expr Term term_step (Expr-F.Not b)

pub term_of-Two : (op : Op) (a b : Box Expr Global) → term_of (exprs.Two op a b) ≡ term.two op (term_of a.value) (term_of b.value)
unfolding expr.roll-Expr denote.Hole.Carrier.roll
term_of-Two op a b = fold-roll-Expr Term term_step (Expr-F.Two op a b)

pub deed_of-Send : (x : ℕ) (e : Expr) → deed_of (deeds.Send x e) ≡ code.send x (term_of e)
unfolding deed.roll-Deed denote.Hole.Carrier.roll
deed_of-Send x e = fold-roll-Deed DeedAt StmtAt (ℕ × Code) deed_level stmt_level arm_level (Deed-F.Send x e)

pub deed_of-Delegate : (x y : ℕ) → deed_of (deeds.Delegate x y) ≡ code.delegate x y
unfolding deed.roll-Deed denote.Hole.Carrier.roll
deed_of-Delegate x y = fold-roll-Deed DeedAt StmtAt (ℕ × Code) deed_level stmt_level arm_level (Deed-F.Delegate x y)

pub deed_of-Take : (x n : ℕ) (k : Scalar) → deed_of (deeds.Take x n k) ≡ code.take_value x n k
unfolding deed.roll-Deed denote.Hole.Carrier.roll
deed_of-Take x n k = fold-roll-Deed DeedAt StmtAt (ℕ × Code) deed_level stmt_level arm_level (Deed-F.Take x n k)

pub deed_of-TakeEnd : (x y p : ℕ) → deed_of (deeds.TakeEnd x y p) ≡ code.take_end x y p
unfolding deed.roll-Deed denote.Hole.Carrier.roll
deed_of-TakeEnd x y p = fold-roll-Deed DeedAt StmtAt (ℕ × Code) deed_level stmt_level arm_level (Deed-F.TakeEnd x y p)

pub deed_of-Select : (x l : ℕ) → deed_of (deeds.Select x l) ≡ code.outbranch x l
unfolding deed.roll-Deed denote.Hole.Carrier.roll
deed_of-Select x l = fold-roll-Deed DeedAt StmtAt (ℕ × Code) deed_level stmt_level arm_level (Deed-F.Select x l)

pub deed_of-Branch : (x : ℕ) (arms : Vec StmtArm Global) → deed_of (deeds.Branch x arms) ≡ code.inbranch x (branches_of (map arm_of arms.items))
unfolding deed.roll-Deed denote.Hole.Carrier.roll
deed_of-Branch x arms = fold-roll-Deed DeedAt StmtAt (ℕ × Code) deed_level stmt_level arm_level (Deed-F.Branch x arms)

pub deed_of-OutWhile : (x : ℕ) (e : Expr) (body : Vec Stmt Global) → deed_of (deeds.OutWhile x e body) ≡ code.outwhile x (term_of e) (code_of body.items)
unfolding deed.roll-Deed denote.Hole.Carrier.roll
deed_of-OutWhile x e body = fold-roll-Deed DeedAt StmtAt (ℕ × Code) deed_level stmt_level arm_level (Deed-F.OutWhile x e body)

pub deed_of-InWhile : (x : ℕ) (body : Vec Stmt Global) → deed_of (deeds.InWhile x body) ≡ code.inwhile x (code_of body.items)
unfolding deed.roll-Deed denote.Hole.Carrier.roll
deed_of-InWhile x body = fold-roll-Deed DeedAt StmtAt (ℕ × Code) deed_level stmt_level arm_level (Deed-F.InWhile x body)

pub deed_of-Relay : (x y : ℕ) (body : Vec Stmt Global) → deed_of (deeds.Relay x y body) ≡ code.relay x y (code_of body.items)
unfolding deed.roll-Deed denote.Hole.Carrier.roll
deed_of-Relay x y body = fold-roll-Deed DeedAt StmtAt (ℕ × Code) deed_level stmt_level arm_level (Deed-F.Relay x y body)

pub deed_of-If : (e : Expr) (first second : Vec Stmt Global) → deed_of (deeds.If e first second) ≡ code.if_else (term_of e) (code_of first.items) (code_of second.items)
unfolding deed.roll-Deed denote.Hole.Carrier.roll
deed_of-If e first second = fold-roll-Deed DeedAt StmtAt (ℕ × Code) deed_level stmt_level arm_level (Deed-F.If e first second)

pub deed_of-Let : (n : ℕ) (e : Expr) → deed_of (deeds.Let n e) ≡ code.let_be n (term_of e)
unfolding deed.roll-Deed denote.Hole.Carrier.roll
deed_of-Let n e = fold-roll-Deed DeedAt StmtAt (ℕ × Code) deed_level stmt_level arm_level (Deed-F.Let n e)

pub deed_of-Close : (x : ℕ) → deed_of (deeds.Close x) ≡ code.close x
unfolding deed.roll-Deed denote.Hole.Carrier.roll
deed_of-Close x = fold-roll-Deed DeedAt StmtAt (ℕ × Code) deed_level stmt_level arm_level (Deed-F.Close x)

pub deed_of-Request : (x p b : ℕ) → deed_of (deeds.Request x p b) ≡ code.request x p b
unfolding deed.roll-Deed denote.Hole.Carrier.roll
deed_of-Request x p b = fold-roll-Deed DeedAt StmtAt (ℕ × Code) deed_level stmt_level arm_level (Deed-F.Request x p b)

pub deed_of-Accept : (x p b : ℕ) → deed_of (deeds.Accept x p b) ≡ code.accept x p b
unfolding deed.roll-Deed denote.Hole.Carrier.roll
deed_of-Accept x p b = fold-roll-Deed DeedAt StmtAt (ℕ × Code) deed_level stmt_level arm_level (Deed-F.Accept x p b)

pub stmt_of-fields : (s : Stmt) → stmt_of s ≡ at s.line (deed_of s.deed)
stmt_of-fields s = fold_out-Stmt DeedAt StmtAt (ℕ × Code) deed_level stmt_level arm_level s

pub arm_of-fields : (a : StmtArm) → arm_of a ≡ ((out-StmtArm a).label, code_of (out-StmtArm a).body.items)
arm_of-fields a = fold_out-StmtArm DeedAt StmtAt (ℕ × Code) deed_level stmt_level arm_level a
