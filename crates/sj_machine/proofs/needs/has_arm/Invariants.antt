use Rattle.std.proofs.Common.{◌≡◌, List, drop}
use Rattle.sj_lang.specs.Code.{Code}
use Rattle.sj_semantics.specs.Fitting.{has_label}
use Rattle.sj_machine.specs.Arena.{arms_in}
use Rattle.sj_machine.proofs.needs.has_arm.Given as goal

abbrev pub invariant-loop-arm : goal.invariant-loop-arm
invariant-loop-arm l = (codes : List Code) → has_label (arms_in codes (drop l.arm-index l.arms)) l.label ≡ has_label (arms_in codes l.arms) l.label
