use Rattle.std.proofs.Common.{◌≡◌, ◌∙◌, ap, sym, refl, true, arith, cond, Some, None, List, [], Vec, ℕ, ◌+◌, ◌<◌, ◌≤◌, ◌∷◌, map, length, ◌&&◌}
use Rattle.std.proofs.lemmas.Bool.Decides.{nat_tests}
use Rattle.sj_lang.specs.declared.party.StmtArm.{StmtArm}
use Rattle.sj_check.proofs.ArmLemmas.{from, from-end, and_assoc, and_true, arm-fault, arm-tests, arm-after, branch-arms, branch-ends}
use Rattle.sj_acceptance.specs.Faults.{first_fault}
use Rattle.sj_acceptance.specs.Sameness.{is_same_ends}
use Rattle.std.specs.declared.alloc.Global.{Global}
use Rattle.sj_lang.specs.declared.party.Expr.{Expr}
use Rattle.sj_lang.specs.declared.party.Stmt.{Stmt}
use Rattle.sj_lang.specs.declared.party.Deed.TheVariants as deeds
use Rattle.sj_lang.proofs.FoldLemmas.{deed_of-If, deed_of-Branch, stmt_of-fields}
use Rattle.sj_acceptance.specs.EnvAt.{EnvAt}
use Rattle.sj_check.specs.SpotEnv.{SpotEnv}
use Rattle.sj_check.specs.Seen.{defs_in, names_in, env_in}
use Rattle.sj_acceptance.specs.Tests.{branches_tests, after_branches, after_stmt}
use Rattle.sj_acceptance.specs.Arms.{all_leave, common_of, common_env, is_one}
use Rattle.sj_lang.specs.CodeView.{term_of, stmt_of, code_of, deed_of, arm_of, branches_of}
use Rattle.sj_lang.specs.Code as code
use Rattle.sj_check.proofs.IfLemmas.{if-condition, if-first, if-second, if-joined}
use Rattle.std.proofs.lemmas.Result.{err_from_is_err_and}
use Rattle.sj_check.proofs.SeenLemmas.{env_in-no_spots}
use Rattle.sj_check.proofs.WalkLemmas.{stmt-fault, stmt-tests, stmt-after}
use Rattle.std.specs.FinMap.{get}
use Rattle.sj_check.proofs.NamedLemmas.{blocks-beyond, moved-beyond, both-moved-beyond, arms-beyond}
use Rattle.sj_check.proofs.walk.+walk.Goals as goal

pub block-returns-in_err-statement : goal.block-returns-in_err-statement
block-returns-in_err-statement t c = let p = err_from_is_err_and c.from_residual.result c.from_residual.ensures.1 in rw (p.1, p.2) (stmt-fault (defs_in c.args.protocols.now) (names_in c.args.protocols.now) c.args.stmts.now c.loop-stmt.stmt-index c.stmt-item.result c.loop-stmt-test.true c.stmt-item.is (env_in c.args.protocols.now c.loop-stmt.env) _ _ c.loop-stmt.invariant.tests c.in_err-statement.ensures)

pub block-loop-stmt-preserved : goal.block-loop-stmt-preserved
block-loop-stmt-preserved t c =
    let ps = defs_in c.args.protocols.now in
    record {
      tests = stmt-tests ps (names_in c.args.protocols.now) c.args.stmts.now c.loop-stmt.stmt-index c.stmt-item.result c.loop-stmt-test.true c.stmt-item.is (env_in c.args.protocols.now c.loop-stmt.env) (env_in c.args.protocols.now c.statement.new.env) c.in_ok-statement.ensures.0 c.in_ok-statement.ensures.1
          ∙ c.loop-stmt.invariant.tests;
      after = stmt-after ps (names_in c.args.protocols.now) c.args.stmts.now c.loop-stmt.stmt-index c.stmt-item.result c.loop-stmt-test.true c.stmt-item.is (env_in c.args.protocols.now c.loop-stmt.env) (env_in c.args.protocols.now c.statement.new.env) c.in_ok-statement.ensures.1
          ∙ c.loop-stmt.invariant.after;
    }

-- the statement is an `if` with these arms
an_if : (s : Stmt) (e : Expr) (a b : Vec Stmt Global) (xs ys : List Stmt) → s.deed ≡ deeds.If e a b → xs ≡ a.items → ys ≡ b.items
    → stmt_of s ≡ code.at s.line (code.if_else (term_of e) (code_of xs) (code_of ys))
an_if s e a b xs ys h p q = stmt_of-fields s ∙ ap (code.at s.line) (ap deed_of h ∙ deed_of-If e a b ∙ (λ i. code.if_else (term_of e) (code_of (sym p i)) (code_of (sym q i))))

pub statement-returns-in_err-other-in-If : goal.statement-returns-in_err-other-in-If
statement-returns-in_err-other-in-If t c =
    let is = an_if c.args.stmt.now c.in-If.test c.in-If.yes c.in-If.no _ _ c.in-If.is refl refl in
    let p = err_from_is_err_and c.from_residual-in_err-other-in-If.result c.from_residual-in_err-other-in-If.ensures.1 in rw (p.1, p.2) (if-condition (defs_in c.args.protocols.now) (names_in c.args.protocols.now) c.args.stmt.now.line (env_in c.args.protocols.now c.args.env.now) (stmt_of c.args.stmt.now) (term_of c.in-If.test) (code_of c.in-If.yes.items) (code_of c.in-If.no.items) is _ (c.in_err-other-in-If.ensures.tests c.args.protocols.now))

pub statement-returns-in_err-block-in-If : goal.statement-returns-in_err-block-in-If
statement-returns-in_err-block-in-If t c =
    let is = an_if c.args.stmt.now c.in-If.test c.in-If.yes c.in-If.no c.deref-in-If.result.now _ c.in-If.is c.deref-in-If.ensures.value refl in
    let p = err_from_is_err_and c.from_residual-in_err-block-in-If.result c.from_residual-in_err-block-in-If.ensures.1 in rw (p.1, p.2) (if-first (defs_in c.args.protocols.now) (names_in c.args.protocols.now) c.args.stmt.now.line (env_in c.args.protocols.now c.args.env.now) (stmt_of c.args.stmt.now) (term_of c.in-If.test) (code_of c.deref-in-If.result.now) (code_of c.in-If.no.items) is (c.in_ok-other-in-If.ensures.tests c.args.protocols.now) _ c.in_err-block-in-If.ensures)

pub statement-returns-in_err-block-in-If-2 : goal.statement-returns-in_err-block-in-If-2
statement-returns-in_err-block-in-If-2 t c =
    let is = an_if c.args.stmt.now c.in-If.test c.in-If.yes c.in-If.no c.deref-in-If.result.now c.deref-in-If-2.result.now c.in-If.is c.deref-in-If.ensures.value c.deref-in-If-2.ensures.value in
    let same : env_in c.args.protocols.now c.in_ok-other-in-If.other ≡ env_in c.args.protocols.now c.args.env.now = ap (env_in c.args.protocols.now) c.in_ok-other-in-If.ensures.ok in
    let p = err_from_is_err_and c.from_residual-in_err-block-in-If-2.result c.from_residual-in_err-block-in-If-2.ensures.1 in rw (p.1, p.2) (if-second (defs_in c.args.protocols.now) (names_in c.args.protocols.now) c.args.stmt.now.line (env_in c.args.protocols.now c.args.env.now) (stmt_of c.args.stmt.now) (term_of c.in-If.test) (code_of c.deref-in-If.result.now) (code_of c.deref-in-If-2.result.now) is
    (c.in_ok-other-in-If.ensures.tests c.args.protocols.now) c.in_ok-block-in-If.ensures.0 _ (rw same at c.in_err-block-in-If-2.ensures))

pub statement-returns-in_ok-named-in-If : goal.statement-returns-in_ok-named-in-If
statement-returns-in_ok-named-in-If t c =
    let protocols = c.args.protocols.now in
    let is = an_if c.args.stmt.now c.in-If.test c.in-If.yes c.in-If.no c.deref-in-If.result.now c.deref-in-If-2.result.now c.in-If.is c.deref-in-If.ensures.value c.deref-in-If-2.ensures.value in
    let same : env_in protocols c.in_ok-other-in-If.other ≡ env_in protocols c.args.env.now = ap (env_in protocols) c.in_ok-other-in-If.ensures.ok in
    if-joined (defs_in protocols) (names_in protocols) c.args.stmt.now.line (env_in protocols c.args.env.now) (stmt_of c.args.stmt.now) (term_of c.in-If.test) (code_of c.deref-in-If.result.now) (code_of c.deref-in-If-2.result.now) is
    (c.in_ok-other-in-If.ensures.tests protocols) c.in_ok-block-in-If.ensures.0 (rw same at c.in_ok-block-in-If-2.ensures.0) (env_in protocols c.block.new.env) (env_in protocols c.block-in-If.new.env)
    c.in_ok-block-in-If.ensures.1 (rw same at c.in_ok-block-in-If-2.ensures.1) c.join.result (env_in protocols c.join.new.env) c.join.ensures.join

pub all_arms-returns-then-is_empty-clause-joined : goal.all_arms-returns-then-is_empty-clause-joined
all_arms-returns-then-is_empty-clause-joined t c =
    let protocols = c.args.protocols.now in
    let none : length c.args.arms.now ≤ 0 = grind (arith, nat_tests) in
    ap (env_in protocols) c.emptied.ensures ∙ env_in-no_spots protocols
    ∙ ap (λ bs. common_env (after_branches (defs_in protocols) (env_in protocols c.args.env.now) c.args.end bs)) (sym (from-end c.args.arms.now 0 none))

pub all_arms-returns-in_err-block-clause-tests : goal.all_arms-returns-in_err-block-clause-tests
all_arms-returns-in_err-block-clause-tests t c =
    let some : 0 < length c.args.arms.now = grind (arith, nat_tests) in
    let p = err_from_is_err_and c.from_residual-in_err-block.result c.from_residual-in_err-block.ensures.1 in rw (p.1, p.2) (arm-fault (defs_in c.args.protocols.now) (names_in c.args.protocols.now) (env_in c.args.protocols.now c.args.env.now) c.args.end c.args.arms.now 0 c.index-arms-0.result some c.index-arms-0.is c.deref.result.now c.deref.ensures.value (env_in c.args.protocols.now c.in_ok-left.left) c.in_ok-left.ensures _ _ refl c.in_err-block.ensures)

pub all_arms-returns-in_err-block-2-clause-tests : goal.all_arms-returns-in_err-block-2-clause-tests
all_arms-returns-in_err-block-2-clause-tests t c =
    let some : 0 < length c.args.arms.now = grind (arith, nat_tests) in
    let p = err_from_is_err_and c.from_residual-in_err-block-2.result c.from_residual-in_err-block-2.ensures.1 in rw (p.1, p.2) (arm-fault (defs_in c.args.protocols.now) (names_in c.args.protocols.now) (env_in c.args.protocols.now c.args.env.now) c.args.end c.args.arms.now c.loop-i.i c.index-arms-i.result c.loop-i-test.true c.index-arms-i.is c.deref-in-loop-i.result.now c.deref-in-loop-i.ensures.value (env_in c.args.protocols.now c.in_ok-inner.inner) c.in_ok-inner.ensures _ _ (c.loop-i.invariant.tests ∙ arm-tests (defs_in c.args.protocols.now) (names_in c.args.protocols.now) (env_in c.args.protocols.now c.args.env.now) c.args.end c.args.arms.now 0 c.index-arms-0.result some c.index-arms-0.is c.deref.result.now c.deref.ensures.value (env_in c.args.protocols.now c.in_ok-left.left) c.in_ok-left.ensures c.in_ok-block.ensures.0) c.in_err-block-2.ensures)

pub all_arms-loop-i-preserved : goal.all_arms-loop-i-preserved
all_arms-loop-i-preserved t c =
    let ps = defs_in c.args.protocols.now in
    let env = (env_in c.args.protocols.now c.args.env.now) in
    let out = (env_in c.args.protocols.now c.block-in-loop-i.new.env) in
    let left = env_in c.args.protocols.now c.loop-i.left in
    let rest = after_branches ps env c.args.end (from c.args.arms.now (c.loop-i.i + 1)) in
    let after : after_branches ps env c.args.end (from c.args.arms.now c.loop-i.i) ≡ out ∷ rest = arm-after (defs_in c.args.protocols.now) (names_in c.args.protocols.now) (env_in c.args.protocols.now c.args.env.now) c.args.end c.args.arms.now c.loop-i.i c.index-arms-i.result c.loop-i-test.true c.index-arms-i.is c.deref-in-loop-i.result.now c.deref-in-loop-i.ensures.value (env_in c.args.protocols.now c.in_ok-inner.inner) c.in_ok-inner.ensures out c.in_ok-block-2.ensures.1 in
    let kept = ap (env_in c.args.protocols.now) c.keep_common.ensures in
    record {
      tests = arm-tests (defs_in c.args.protocols.now) (names_in c.args.protocols.now) (env_in c.args.protocols.now c.args.env.now) c.args.end c.args.arms.now c.loop-i.i c.index-arms-i.result c.loop-i-test.true c.index-arms-i.is c.deref-in-loop-i.result.now c.deref-in-loop-i.ensures.value (env_in c.args.protocols.now c.in_ok-inner.inner) c.in_ok-inner.ensures c.in_ok-block-2.ensures.0 ∙ c.loop-i.invariant.tests;
      ends = ap (λ (e : EnvAt). e.ends) kept ∙ c.loop-i.invariant.ends;
      agree = ap (λ (e : EnvAt). c.both-agree.result && all_leave e.ends rest) kept
          ∙ ap (λ b. b && all_leave left.ends rest) (c.both-agree.ensures ∙ ap (λ b. c.loop-i.agree && b) c.has_same_ends_at.ensures)
          ∙ and_assoc c.loop-i.agree (is_same_ends left.ends out.ends) (all_leave left.ends rest)
          ∙ ap (λ (es : List EnvAt). c.loop-i.agree && all_leave left.ends es) (sym after) ∙ c.loop-i.invariant.agree;
      known = ap (λ (e : EnvAt). common_of e.variables rest) kept ∙ ap (λ (es : List EnvAt). common_of left.variables es) (sym after) ∙ c.loop-i.invariant.known;
    }

pub all_arms-returns-clause-tests : goal.all_arms-returns-clause-tests
all_arms-returns-clause-tests t c =
    let some : 0 < length c.args.arms.now = grind (arith, nat_tests) in
    let end = from-end c.args.arms.now c.loop-i.i (omega arith) in
    sym (c.loop-i.invariant.tests ∙ arm-tests (defs_in c.args.protocols.now) (names_in c.args.protocols.now) (env_in c.args.protocols.now c.args.env.now) c.args.end c.args.arms.now 0 c.index-arms-0.result some c.index-arms-0.is c.deref.result.now c.deref.ensures.value (env_in c.args.protocols.now c.in_ok-left.left) c.in_ok-left.ensures c.in_ok-block.ensures.0)
    ∙ ap (λ bs. first_fault (branches_tests (defs_in c.args.protocols.now) (names_in c.args.protocols.now) (env_in c.args.protocols.now c.args.env.now) c.args.end bs)) end

pub all_arms-returns-clause-joined : goal.all_arms-returns-clause-joined
all_arms-returns-clause-joined t c =
    let some : 0 < length c.args.arms.now = grind (arith, nat_tests) in
    let ps = defs_in c.args.protocols.now in
    let end = from-end c.args.arms.now c.loop-i.i (omega arith) in
    let whole = arm-after (defs_in c.args.protocols.now) (names_in c.args.protocols.now) (env_in c.args.protocols.now c.args.env.now) c.args.end c.args.arms.now 0 c.index-arms-0.result some c.index-arms-0.is c.deref.result.now c.deref.ensures.value (env_in c.args.protocols.now c.in_ok-left.left) c.in_ok-left.ensures (env_in c.args.protocols.now c.block.new.env) c.in_ok-block.ensures.1 in
    let known = ap (λ bs. common_of c.loop-i.left.variables (after_branches ps (env_in c.args.protocols.now c.args.env.now) c.args.end bs)) (sym end) ∙ c.loop-i.invariant.known in
    (λ i. record { ends = c.loop-i.invariant.ends i; variables = known i }) ∙ ap common_env (sym whole)

pub all_arms-returns-clause-agree : goal.all_arms-returns-clause-agree
all_arms-returns-clause-agree t c =
    let some : 0 < length c.args.arms.now = grind (arith, nat_tests) in
    let ps = defs_in c.args.protocols.now in
    let end = from-end c.args.arms.now c.loop-i.i (omega arith) in
    let whole = arm-after (defs_in c.args.protocols.now) (names_in c.args.protocols.now) (env_in c.args.protocols.now c.args.env.now) c.args.end c.args.arms.now 0 c.index-arms-0.result some c.index-arms-0.is c.deref.result.now c.deref.ensures.value (env_in c.args.protocols.now c.in_ok-left.left) c.in_ok-left.ensures (env_in c.args.protocols.now c.block.new.env) c.in_ok-block.ensures.1 in
    sym (and_true c.loop-i.agree) ∙ ap (λ bs. c.loop-i.agree && all_leave (env_in c.args.protocols.now c.loop-i.left).ends (after_branches ps (env_in c.args.protocols.now c.args.env.now) c.args.end bs)) (sym end)
    ∙ c.loop-i.invariant.agree ∙ ap is_one (sym whole)

-- the statement is an `inbranch` with these arms
an_inbranch : (s : Stmt) (x : ℕ) (arms : Vec StmtArm Global) (xs : List StmtArm) → s.deed ≡ deeds.Branch x arms → xs ≡ arms.items
    → stmt_of s ≡ code.at s.line (code.inbranch x (branches_of (map arm_of xs)))
an_inbranch s x arms xs h p = stmt_of-fields s ∙ ap (code.at s.line) (ap deed_of h ∙ deed_of-Branch x arms ∙ ap (λ ys. code.inbranch x (branches_of (map arm_of ys))) (sym p))

pub statement-returns-in_err-left-in-Branch : goal.statement-returns-in_err-left-in-Branch
statement-returns-in_err-left-in-Branch t c =
    let is = an_inbranch c.args.stmt.now c.in-Branch.end c.in-Branch.arms c.deref-in-Branch.result.now c.in-Branch.is c.deref-in-Branch.ensures.value in
    let same : c.deref.result.now ≡ c.deref-in-Branch.result.now = c.deref.ensures.value ∙ sym c.deref-in-Branch.ensures.value in
    let asked = rw same at c.in_ok-branching-in-Branch.ensures in
    let p = err_from_is_err_and c.from_residual-in_err-left-in-Branch.result c.from_residual-in_err-left-in-Branch.ensures.1 in rw (p.1, p.2) (branch-arms (defs_in c.args.protocols.now) (names_in c.args.protocols.now) c.args.stmt.now.line (env_in c.args.protocols.now c.args.env.now) (stmt_of c.args.stmt.now) c.in-Branch.end (branches_of (map arm_of c.deref-in-Branch.result.now)) is asked _ c.in_err-left-in-Branch.ensures.tests)

pub statement-returns-then-not-agree : goal.statement-returns-then-not-agree
statement-returns-then-not-agree t c =
    let is = an_inbranch c.args.stmt.now c.in-Branch.end c.in-Branch.arms c.deref-in-Branch.result.now c.in-Branch.is c.deref-in-Branch.ensures.value in
    let same : c.deref.result.now ≡ c.deref-in-Branch.result.now = c.deref.ensures.value ∙ sym c.deref-in-Branch.ensures.value in
    let asked = rw same at c.in_ok-branching-in-Branch.ensures in
    rw c.broken.ensures (branch-ends (defs_in c.args.protocols.now) (names_in c.args.protocols.now) c.args.stmt.now.line (env_in c.args.protocols.now c.args.env.now) (stmt_of c.args.stmt.now) c.in-Branch.end (branches_of (map arm_of c.deref-in-Branch.result.now)) is asked c.in_ok-left-in-Branch.agree c.in_ok-left-in-Branch.ensures.tests c.in_ok-left-in-Branch.ensures.agree
    ∙ ap (λ b. cond b None (Some (9, c.args.stmt.now.line))) c.if-not-agree.true)

pub statement-returns-else-not-agree : goal.statement-returns-else-not-agree
statement-returns-else-not-agree t c =
    let is = an_inbranch c.args.stmt.now c.in-Branch.end c.in-Branch.arms c.deref-in-Branch.result.now c.in-Branch.is c.deref-in-Branch.ensures.value in
    let same : c.deref.result.now ≡ c.deref-in-Branch.result.now = c.deref.ensures.value ∙ sym c.deref-in-Branch.ensures.value in
    let asked = rw same at c.in_ok-branching-in-Branch.ensures in (
      branch-ends (defs_in c.args.protocols.now) (names_in c.args.protocols.now) c.args.stmt.now.line (env_in c.args.protocols.now c.args.env.now) (stmt_of c.args.stmt.now) c.in-Branch.end (branches_of (map arm_of c.deref-in-Branch.result.now)) is asked c.in_ok-left-in-Branch.agree c.in_ok-left-in-Branch.ensures.tests c.in_ok-left-in-Branch.ensures.agree
          ∙ ap (λ b. cond b None (Some (9, c.args.stmt.now.line))) c.if-not-agree.false,
      c.in_ok-left-in-Branch.ensures.joined ∙ ap (after_stmt (defs_in c.args.protocols.now) (env_in c.args.protocols.now c.args.env.now)) (sym is),
    )

-- what may differ is named
pub out_while-has_same_ends_at-requires : goal.out_while-has_same_ends_at-requires
out_while-has_same_ends_at-requires t c =
    blocks-beyond (defs_in c.args.protocols.now) (names_in c.args.protocols.now) (env_in c.args.protocols.now c.args.env.now) _ (env_in c.args.protocols.now c.args.env.now) _ (c.args.end ∷ []) code.no_stmt (code_of c.args.body.now) code.no_stmt (code_of c.args.body.now) _ refl refl
    c.in_ok-named.ensures (moved-beyond (env_in c.args.protocols.now c.args.env.now) _ _ c.args.end _ (ap (env_in c.args.protocols.now) c.in_ok-inner.ensures) c.in_ok-enter.ensures) refl refl c.in_ok-block.ensures.0 c.in_ok-block.ensures.1

pub in_while-has_same_ends_at-requires : goal.in_while-has_same_ends_at-requires
in_while-has_same_ends_at-requires t c =
    blocks-beyond (defs_in c.args.protocols.now) (names_in c.args.protocols.now) (env_in c.args.protocols.now c.args.env.now) _ (env_in c.args.protocols.now c.args.env.now) _ (c.args.end ∷ []) code.no_stmt (code_of c.args.body.now) code.no_stmt (code_of c.args.body.now) _ refl refl
    c.in_ok-named.ensures (moved-beyond (env_in c.args.protocols.now c.args.env.now) _ _ c.args.end _ (ap (env_in c.args.protocols.now) c.in_ok-turn.ensures) c.in_ok-enter.ensures) refl refl c.in_ok-block.ensures.0 c.in_ok-block.ensures.1

pub relay-has_same_ends_at-requires : goal.relay-has_same_ends_at-requires
relay-has_same_ends_at-requires t c =
    blocks-beyond (defs_in c.args.protocols.now) (names_in c.args.protocols.now) (env_in c.args.protocols.now c.args.env.now) _ (env_in c.args.protocols.now c.args.env.now) _ (c.args.from ∷ c.args.to ∷ []) code.no_stmt (code_of c.args.body.now) code.no_stmt (code_of c.args.body.now) _ refl refl
    c.in_ok-named.ensures (both-moved-beyond (env_in c.args.protocols.now c.args.env.now) _ _ _ c.args.from c.args.to _ _ (ap (env_in c.args.protocols.now) c.in_ok-inner.ensures) c.in_ok-enter.ensures c.in_ok-enter-2.ensures) refl refl
    c.in_ok-block.ensures.0 c.in_ok-block.ensures.1

pub all_arms-has_same_ends_at-requires : goal.all_arms-has_same_ends_at-requires
all_arms-has_same_ends_at-requires t c q out =
    ap (λ m. get m q) c.loop-i.invariant.ends
    ∙ blocks-beyond (defs_in c.args.protocols.now) (names_in c.args.protocols.now) _ _ _ _ (c.args.end ∷ []) (code_of c.deref.result.now) (code_of c.deref-in-loop-i.result.now)
    (code_of c.deref-in-loop-i-2.result.now) (code_of c.deref-in-loop-i-3.result.now) _
    (ap code_of (c.deref-in-loop-i-2.ensures.value ∙ sym c.deref.ensures.value)) (ap code_of (c.deref-in-loop-i-3.ensures.value ∙ sym c.deref-in-loop-i.ensures.value))
    c.in_ok-named.ensures (arms-beyond (env_in c.args.protocols.now c.args.env.now) _ _ c.args.end _ _ c.in_ok-left.ensures c.in_ok-inner.ensures)
    c.in_ok-block.ensures.0 c.in_ok-block.ensures.1 c.in_ok-block-2.ensures.0 c.in_ok-block-2.ensures.1 q out

pub statement-join-requires : goal.statement-join-requires
statement-join-requires t c =
    blocks-beyond (defs_in c.args.protocols.now) (names_in c.args.protocols.now) (env_in c.args.protocols.now c.args.env.now) (env_in c.args.protocols.now c.in_ok-other-in-If.other) _ _ [] (code_of c.deref-in-If.result.now) (code_of c.deref-in-If-2.result.now)
    (code_of c.deref-in-If-3.result.now) (code_of c.deref-in-If-4.result.now) _
    (ap code_of (c.deref-in-If-3.ensures.value ∙ sym c.deref-in-If.ensures.value)) (ap code_of (c.deref-in-If-4.ensures.value ∙ sym c.deref-in-If-2.ensures.value))
    c.in_ok-named-in-If.ensures (λ q n. ap (λ (k : SpotEnv). get (env_in c.args.protocols.now k).ends q) (sym c.in_ok-other-in-If.ensures.ok))
    c.in_ok-block-in-If.ensures.0 c.in_ok-block-in-If.ensures.1 c.in_ok-block-in-If-2.ensures.0 c.in_ok-block-in-If-2.ensures.1
