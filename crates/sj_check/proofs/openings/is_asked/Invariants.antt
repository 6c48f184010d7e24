use Rattle.std.proofs.Common.{◌≡◌, drop}
use Rattle.sj_check.specs.Openings.{openings_of, is_asked}
use Rattle.sj_check.proofs.openings.is_asked.Given as goal

abbrev pub invariant-loop-opening : goal.invariant-loop-opening
invariant-loop-opening l = is_asked l.protocol l.party (openings_of (drop l.opening-index l.all)) ≡ is_asked l.protocol l.party (openings_of l.all)
