use Rattle.std.proofs.Common.{◌≡◌, drop}
use Rattle.sj_acceptance.specs.LabelTests.{all_differ}
use Rattle.sj_check.proofs.labels.all_differ.Given as goal

abbrev pub invariant-loop-i : goal.invariant-loop-i
invariant-loop-i l = all_differ (drop l.i l.all) ≡ all_differ l.all
