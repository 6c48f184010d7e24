use Rattle.std.proofs.Common.{◌≡◌, drop}
use Rattle.sj_lang.specs.View.{choices_of}
use Rattle.sj_acceptance.specs.LabelTests.{all_differ}
use Rattle.sj_acceptance.specs.Labels.{labels_of}
use Rattle.sj_check.proofs.uniqueness.labels_differ.Given as goal

abbrev pub invariant-loop-i : goal.invariant-loop-i
invariant-loop-i l = all_differ (labels_of (choices_of (drop l.i l.arms))) ≡ all_differ (labels_of (choices_of l.arms))
