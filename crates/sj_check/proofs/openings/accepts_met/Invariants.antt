use Rattle.std.proofs.Common.{◌≡◌, drop}
use Rattle.sj_acceptance.specs.Faults.{first_fault}
use Rattle.sj_check.specs.Openings.{openings_of, each_accept}
use Rattle.sj_check.specs.Views.{protocols_of}
use Rattle.sj_check.proofs.openings.accepts_met.Given as goal

abbrev pub invariant-loop-accept : goal.invariant-loop-accept
invariant-loop-accept l =
    let accepts = l.own.accepts.items in
    first_fault (each_accept (protocols_of l.protocols) l.all l.own.party (openings_of (drop l.accept-index accepts))) ≡ first_fault (each_accept (protocols_of l.protocols) l.all l.own.party (openings_of accepts))
