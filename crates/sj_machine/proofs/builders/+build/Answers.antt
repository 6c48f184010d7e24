use Rattle.std.proofs.Common.{◌≡◌, ℕ, List, [], ◌∷◌, ◌++◌, drop, take, map, length, sym, ap, ◌∙◌, arith, subst}
use Rattle.sj_lang.specs.Code.{Code, StmtAt, stmt_then, at, if_else}
use Rattle.sj_lang.specs.CodeView.{code_of, arm_of, branches_of}
use Rattle.sj_lang.proofs.FoldLemmas.{stmt_of-fields, arm_of-fields, deed_of-If}
use Rattle.sj_machine.specs.Arena.{codes_of, code_in, arms_in, AreBelow}
use Rattle.sj_machine.proofs.BuildLemmas.{grown_code, grown_arms, grown_arms_below, grown_twice, code_before, then_same, arms_push, below_push, map_take_next}
use Rattle.sj_machine.proofs.builders.+build.Goals as goal

pub add_block-loop-at-preserved : goal.add_block-loop-at-preserved
add_block-loop-at-preserved t c =
    let h = c.loop-at.invariant in
    record {
      within = let l = h.within in omega arith;
      code =
          c.in_ok-add_node.ensures.code
          ∙ then_same c.index-stmts-at.result.line _ _ _ _ c.in_ok-op.ensures.deed (grown_code c.loop-at.nodes.items c.add_op.new.nodes.items c.loop-at.next c.in_ok-op.ensures.grown h.below ∙ h.code)
          ∙ ap (λ (s : StmtAt). stmt_then s (code_of (drop c.loop-at.at c.args.stmts.now))) (sym (stmt_of-fields c.index-stmts-at.result))
          ∙ sym (code_before c.args.stmts.now c.loop-at.at c.index-stmts-at.result c.loop-at-test.true h.within c.index-stmts-at.is);
      below = c.in_ok-add_node.ensures.below;
      grown = grown_twice _ _ _ h.grown (grown_twice _ _ _ c.in_ok-op.ensures.grown c.in_ok-add_node.ensures.grown);
    }

pub add_op-returns-in_ok-no-in-If-clause-deed : goal.add_op-returns-in_ok-no-in-If-clause-deed
add_op-returns-in_ok-no-in-If-clause-deed t c =
    let kept = grown_code c.add_block-in-If.new.nodes.items c.add_block-in-If-2.new.nodes.items c.in_ok-yes-in-If.yes c.in_ok-no-in-If.ensures.grown c.in_ok-yes-in-If.ensures.below in
    let first : code_in (codes_of c.add_block-in-If-2.new.nodes.items) c.in_ok-yes-in-If.yes ≡ code_of c.in-If.yes.items = kept ∙ c.in_ok-yes-in-If.ensures.code ∙ ap code_of c.deref-in-If.ensures.value in
    let second : code_in (codes_of c.add_block-in-If-2.new.nodes.items) c.in_ok-no-in-If.no ≡ code_of c.in-If.no.items = c.in_ok-no-in-If.ensures.code ∙ ap code_of c.deref-in-If-2.ensures.value in
    (λ i. if_else (c.in_ok-test-in-If.ensures i) (first i) (second i)) ∙ sym (deed_of-If c.in-If.test c.in-If.yes c.in-If.no) ∙ sym (ap Rattle.sj_lang.specs.CodeView.deed_of c.in-If.is)

pub add_arms-loop-arm-preserved : goal.add_arms-loop-arm-preserved
add_arms-loop-arm-preserved t c =
    let h = c.loop-arm.invariant in
    let new = c.add_block.new.nodes.items in
    let codes : List Code = codes_of new in
    let kept = grown_arms c.loop-arm.nodes.items new c.loop-arm.out.items c.in_ok-body.ensures.grown h.below ∙ h.arms in
    let body : code_in codes c.in_ok-body.body ≡ code_of (Rattle.sj_lang.specs.declared.party.StmtArm.out-StmtArm c.arm-item.result).body.items = c.in_ok-body.ensures.code ∙ ap code_of c.deref.ensures.value in
    let here = ap (λ (b : Code). ((Rattle.sj_lang.specs.declared.party.StmtArm.out-StmtArm c.arm-item.result).label, b)) body ∙ sym (arm_of-fields c.arm-item.result) in
    record {
      arms =
          ap (arms_in codes) c.in_ok-push.ensures.items
          ∙ arms_push codes c.loop-arm.out.items _ (map arm_of (take c.loop-arm.arm-index c.args.arms.now)) kept
          ∙ ap (λ (b : ℕ × Code). branches_of (map arm_of (take c.loop-arm.arm-index c.args.arms.now) ++ b ∷ [])) here
          ∙ sym (ap branches_of (map_take_next arm_of c.args.arms.now c.loop-arm.arm-index c.arm-item.result c.loop-arm-test.true c.arm-item.is));
      below = subst (AreBelow (length new)) (sym c.in_ok-push.ensures.items) (below_push (length new) c.loop-arm.out.items _ (grown_arms_below c.loop-arm.nodes.items new c.loop-arm.out.items c.in_ok-body.ensures.grown h.below) c.in_ok-body.ensures.below);
      grown = grown_twice _ _ _ h.grown c.in_ok-body.ensures.grown;
    }
