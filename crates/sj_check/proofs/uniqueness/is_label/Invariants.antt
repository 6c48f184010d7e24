use Rattle.std.proofs.Common.{◌≡◌, drop}
use Rattle.sj_lang.specs.View.{choices_of}
use Rattle.sj_acceptance.specs.LabelTests.{is_among}
use Rattle.sj_acceptance.specs.Labels.{labels_of}
use Rattle.sj_check.proofs.uniqueness.is_label.Given as goal

abbrev pub invariant-loop-arm : goal.invariant-loop-arm
invariant-loop-arm l = is_among l.label (labels_of (choices_of (drop l.arm-index l.arms))) ≡ is_among l.label (labels_of (choices_of l.arms))
