use Rattle.std.proofs.Common.{◌≡◌, drop}
use Rattle.sj_acceptance.specs.Faults.{first_fault}
use Rattle.sj_acceptance.specs.FileTests.{body_tests}
use Rattle.sj_check.specs.Seen.{defs_in, names_in}
use Rattle.sj_check.specs.Views.{parties_of, connects_of}
use Rattle.sj_check.proofs.files.bodies.Given as goal

abbrev pub invariant-loop-party : goal.invariant-loop-party
invariant-loop-party l =
    let ps = defs_in l.protocols in
    first_fault (body_tests ps (names_in l.protocols) (connects_of l.connects) (parties_of (drop l.party-index l.parties))) ≡ first_fault (body_tests ps (names_in l.protocols) (connects_of l.connects) (parties_of l.parties))
