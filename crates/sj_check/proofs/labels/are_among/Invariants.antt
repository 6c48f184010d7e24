use Rattle.std.proofs.Common.{◌≡◌, drop}
use Rattle.sj_acceptance.specs.LabelTests.{are_among}
use Rattle.sj_check.proofs.labels.are_among.Given as goal

abbrev pub invariant-loop-label : goal.invariant-loop-label
invariant-loop-label l = are_among (drop l.label-index l.some) l.all ≡ are_among l.some l.all
