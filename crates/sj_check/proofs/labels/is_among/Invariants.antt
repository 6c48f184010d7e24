use Rattle.std.proofs.Common.{◌≡◌, drop}
use Rattle.sj_acceptance.specs.LabelTests.{is_among}
use Rattle.sj_check.proofs.labels.is_among.Given as goal

abbrev pub invariant-loop-other : goal.invariant-loop-other
invariant-loop-other l = is_among l.label (drop l.other-index l.all) ≡ is_among l.label l.all
