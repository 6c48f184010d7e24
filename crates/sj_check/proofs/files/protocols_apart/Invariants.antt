use Rattle.std.proofs.Common.{◌≡◌, [], take, drop}
use Rattle.sj_acceptance.specs.Faults.{first_fault}
use Rattle.sj_acceptance.specs.FileTests.{protocol_tests}
use Rattle.sj_check.specs.Views.{protocols_of}
use Rattle.sj_check.proofs.files.protocols_apart.Given as goal

abbrev pub invariant-loop-i : goal.invariant-loop-i
invariant-loop-i l = first_fault (protocol_tests (protocols_of (take l.i l.protocols)) (protocols_of (drop l.i l.protocols))) ≡ first_fault (protocol_tests [] (protocols_of l.protocols))
