use Rattle.std.proofs.Common.{List, subst, sym, ◌∙◌, ap}
use Rattle.sj_acceptance.specs.Faults.{Test}
use Rattle.sj_check.specs.Told.{Judges}
use Rattle.sj_check.specs.declared.openings.Openings.{Openings}
use Rattle.sj_check.specs.Openings.{gathered_tests}
use Rattle.sj_check.specs.Views.{protocols_of, parties_of}
use Rattle.sj_check.proofs.OpeningLemmas.{tests_alike}
use Rattle.sj_check.proofs.openings.openings_meet.Goals as goal

pub returns : goal.returns
returns c =
    let ps = protocols_of c.args.protocols.now in
    subst (λ (ts : List Test). Judges ts c.are_met.result)
    (ap (λ (all : List Openings). gathered_tests ps all all) c.deref.ensures.value ∙ tests_alike ps c.in_ok-all.all.items (parties_of c.args.parties.now) c.in_ok-all.ensures)
    c.are_met.ensures
