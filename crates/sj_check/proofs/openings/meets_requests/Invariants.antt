use Rattle.std.proofs.Common.{◌≡◌, drop}
use Rattle.sj_check.specs.Openings.{opening_of, meets_gathered}
use Rattle.sj_check.specs.Views.{protocols_of}
use Rattle.sj_check.proofs.openings.meets_requests.Given as goal

abbrev pub invariant-loop-other : goal.invariant-loop-other
invariant-loop-other l = meets_gathered (protocols_of l.protocols) l.party (opening_of l.accept) (drop l.other-index l.all) ≡ meets_gathered (protocols_of l.protocols) l.party (opening_of l.accept) l.all
