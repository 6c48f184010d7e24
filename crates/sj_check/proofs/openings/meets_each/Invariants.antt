use Rattle.std.proofs.Common.{◌≡◌, drop}
use Rattle.sj_acceptance.specs.FileTests.{meets_each}
use Rattle.sj_check.specs.Openings.{opening_of, openings_of}
use Rattle.sj_check.specs.Views.{protocols_of}
use Rattle.sj_check.proofs.openings.meets_each.Given as goal

abbrev pub invariant-loop-request : goal.invariant-loop-request
invariant-loop-request l =
    meets_each (protocols_of l.protocols) l.party (opening_of l.accept) (openings_of (drop l.request-index l.requests)) ≡ meets_each (protocols_of l.protocols) l.party (opening_of l.accept) (openings_of l.requests)
