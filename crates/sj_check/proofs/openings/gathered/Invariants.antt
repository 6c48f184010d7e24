use Rattle.std.proofs.Common.{take}
use Rattle.std.specs.List.{AllZip}
use Rattle.sj_check.specs.Openings.{AreOf}
use Rattle.sj_check.specs.Views.{parties_of}
use Rattle.sj_check.proofs.openings.gathered.Given as goal

abbrev pub invariant-loop-party : goal.invariant-loop-party
invariant-loop-party l = AllZip AreOf l.all.items (parties_of (take l.party-index l.parties))
