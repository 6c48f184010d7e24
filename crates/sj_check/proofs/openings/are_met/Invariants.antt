use Rattle.std.proofs.Common.{◌≡◌, drop}
use Rattle.sj_acceptance.specs.Faults.{first_fault}
use Rattle.sj_check.specs.Openings.{gathered_tests}
use Rattle.sj_check.specs.Views.{protocols_of}
use Rattle.sj_check.proofs.openings.are_met.Given as goal

abbrev pub invariant-loop-own : goal.invariant-loop-own
invariant-loop-own l = first_fault (gathered_tests (protocols_of l.protocols) l.all (drop l.own-index l.all)) ≡ first_fault (gathered_tests (protocols_of l.protocols) l.all l.all)
