use Rattle.std.proofs.Common.{◌≡◌, [], take, drop}
use Rattle.sj_acceptance.specs.Faults.{first_fault}
use Rattle.sj_acceptance.specs.FileTests.{party_names, connect_tests}
use Rattle.sj_check.specs.Views.{protocols_of, parties_of, connects_of}
use Rattle.sj_check.proofs.ends.connections.Given as goal

abbrev pub invariant-loop-i : goal.invariant-loop-i
invariant-loop-i l =
    let parties = party_names (parties_of l.parties) in
    let ps = protocols_of l.protocols in
    first_fault (connect_tests parties ps (connects_of (take l.i l.connects)) (connects_of (drop l.i l.connects))) ≡ first_fault (connect_tests parties ps [] (connects_of l.connects))
