use Rattle.std.proofs.Common.{List, sym, subst, take, ◌+◌}
use Rattle.std.specs.List.{AllZip}
use Rattle.sj_check.specs.declared.openings.Openings.{Openings}
use Rattle.sj_check.specs.Openings.{AreOf}
use Rattle.sj_check.specs.Views.{parties_of}
use Rattle.sj_check.proofs.OpeningLemmas.{gathered_next}
use Rattle.sj_check.proofs.openings.gathered.Goals as goal

pub loop-party-preserved : goal.loop-party-preserved
loop-party-preserved c =
    subst (λ (all : List Openings). AllZip AreOf all (parties_of (take (c.loop-party.party-index + 1) c.args.parties.now))) (sym c.in_ok-push.ensures.items)
    (gathered_next c.args.parties.now c.loop-party.party-index c.party-item.result c.loop-party.all.items c.in_ok-gathered_of.field-0 c.loop-party-test.true c.party-item.is c.loop-party.invariant c.in_ok-gathered_of.ensures)
