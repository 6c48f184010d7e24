use Rattle.std.proofs.Common.{◌≡◌, ℕ, List, drop}
use Rattle.sj_lang.specs.Code.{Code}
use Rattle.sj_semantics.specs.Steps.{arm_named}
use Rattle.sj_machine.specs.Arena.{AreBelow, arms_in}
use Rattle.sj_machine.proofs.leads.arm_for.Given as goal

abbrev pub invariant-loop-arm : goal.invariant-loop-arm
invariant-loop-arm l = record {
  same : (codes : List Code) → arm_named (arms_in codes (drop l.arm-index l.arms)) l.label ≡ arm_named (arms_in codes l.arms) l.label;
  below : (k : ℕ) → AreBelow k l.arms → AreBelow k (drop l.arm-index l.arms);
}
