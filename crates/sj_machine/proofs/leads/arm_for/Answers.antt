use Rattle.std.proofs.Common.{◌∙◌, None}
use Rattle.std.proofs.lemmas.Bool.{ne_eqb}
use Rattle.sj_machine.proofs.ArmLemmas.{arm_is_below, below_next, named_next}
use Rattle.sj_machine.proofs.leads.arm_for.Goals as goal

pub returns-then-arm-label-clause-below : goal.returns-then-arm-label-clause-below
returns-then-arm-label-clause-below c = λ k h. arm_is_below c.args.arms.now c.loop-arm.arm-index k (record { label = 0; body = None }) c.loop-arm-test.true h

pub loop-arm-preserved : goal.loop-arm-preserved
loop-arm-preserved c = record {
  same = λ codes. named_next codes c.args.arms.now c.loop-arm.arm-index c.in-Label.label (record { label = 0; body = None }) c.loop-arm-test.true (ne_eqb _ _ c.if-arm-label.false) ∙ c.loop-arm.invariant.same codes;
  below = λ k h. below_next c.args.arms.now c.loop-arm.arm-index k (c.loop-arm.invariant.below k h);
}
