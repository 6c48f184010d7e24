use Rattle.std.proofs.Common.{◌≡◌, [], take, drop}
use Rattle.sj_acceptance.specs.Faults.{first_fault}
use Rattle.sj_acceptance.specs.FileTests.{party_tests}
use Rattle.sj_check.specs.Views.{parties_of}
use Rattle.sj_check.proofs.files.parties_apart.Given as goal

abbrev pub invariant-loop-i : goal.invariant-loop-i
invariant-loop-i l = first_fault (party_tests (parties_of (take l.i l.parties)) (parties_of (drop l.i l.parties))) ≡ first_fault (party_tests [] (parties_of l.parties))
