use Rattle.std.proofs.Common.{Option, ℕ, ◌+◌, ◌∙◌, ap, drop, refl, sym}
use Rattle.sj_lang.specs.CodeView.{code_of, deed_of}
use Rattle.sj_forest.proofs.OpeningLemmas.{arms_split, if_split, in_arms, in_code, in_deed, or_else, stmts_split, told_later, told_now}
use Rattle.sj_forest.proofs.openings.+first.Goals as goal

pub in_block-returns-in-Some : goal.in_block-returns-in-Some
in_block-returns-in-Some t c =
    let stmts = c.args.stmts.now in
    let i = c.loop-stmt.stmt-index in
    let s = c.stmt-item.result in
    told_now (in_code (code_of stmts)) (in_code (code_of (drop i stmts))) (in_deed s.line (deed_of s.deed)) (in_code (code_of (drop (i + 1) stmts))) c.in-Some.line c.loop-stmt.invariant
    (stmts_split stmts i s c.loop-stmt-test.true c.stmt-item.is) c.in-Some.ensures

pub in_block-loop-stmt-preserved : goal.in_block-loop-stmt-preserved
in_block-loop-stmt-preserved t c =
    let stmts = c.args.stmts.now in
    let i = c.loop-stmt.stmt-index in
    let s = c.stmt-item.result in
    told_later (in_code (code_of stmts)) (in_code (code_of (drop i stmts))) (in_deed s.line (deed_of s.deed)) (in_code (code_of (drop (i + 1) stmts))) c.loop-stmt.invariant
    (stmts_split stmts i s c.loop-stmt-test.true c.stmt-item.is) c.in-None.ensures

pub in_stmt-returns-in-Some : goal.in_stmt-returns-in-Some
in_stmt-returns-in-Some t c =
    ap (λ (h : Option ℕ). or_else h (in_code (code_of c.in-If.no.items))) c.in-Some.ensures
    ∙ sym (if_split c.args.line c.args.deed.now c.in-If.test c.in-If.yes c.in-If.no c.deref-in-If.result.now c.in-If.no.items c.in-If.is c.deref-in-If.ensures.value refl)

pub in_stmt-returns-in-None : goal.in_stmt-returns-in-None
in_stmt-returns-in-None t c =
    c.in_block-in-None.ensures ∙ ap (λ (h : Option ℕ). or_else h (in_code (code_of c.deref-in-None.result.now))) c.in-None.ensures
    ∙ sym (if_split c.args.line c.args.deed.now c.in-If.test c.in-If.yes c.in-If.no c.deref-in-If.result.now c.deref-in-None.result.now c.in-If.is c.deref-in-If.ensures.value c.deref-in-None.ensures.value)

pub in_arms-returns-in-Some : goal.in_arms-returns-in-Some
in_arms-returns-in-Some t c =
    let arms = c.args.arms.now in
    let i = c.loop-arm.arm-index in
    told_now (in_arms arms) (in_arms (drop i arms)) (in_code (code_of c.deref.result.now)) (in_arms (drop (i + 1) arms)) c.in-Some.line c.loop-arm.invariant
    (arms_split arms i c.arm-item.result c.deref.result.now c.loop-arm-test.true c.arm-item.is c.deref.ensures.value) c.in-Some.ensures

pub in_arms-loop-arm-preserved : goal.in_arms-loop-arm-preserved
in_arms-loop-arm-preserved t c =
    let arms = c.args.arms.now in
    let i = c.loop-arm.arm-index in
    told_later (in_arms arms) (in_arms (drop i arms)) (in_code (code_of c.deref.result.now)) (in_arms (drop (i + 1) arms)) c.loop-arm.invariant
    (arms_split arms i c.arm-item.result c.deref.result.now c.loop-arm-test.true c.arm-item.is c.deref.ensures.value) c.in-None.ensures
