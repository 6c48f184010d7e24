use Rattle.sj_seats.specs.Draining.{Adds}
use Rattle.sj_seats.specs.Played.{Keeps}
use Rattle.sj_seats.specs.declared.played.PlayedWorld.{PlayedWorld}
use Rattle.std.proofs.Common.{subst}
use Rattle.sj_seats.proofs.AddedLemmas.{callers_still, calls_still, ends_still}
use Rattle.sj_seats.proofs.ReplayLemmas.{run_told}
use Rattle.sj_seats.proofs.seated.SeatedWorld.drain.Goals as goal

pub returns-clause-run : goal.returns-clause-run
returns-clause-run c = run_told c.drain.new.self c.drain.ensures.reached

pub returns-clause-grows : goal.returns-clause-grows
returns-clause-grows c = (subst (λ (w : PlayedWorld). Adds w c.drain.new.self) c.self.view_is c.drain.ensures.adds).lines

pub returns-clause-callers : goal.returns-clause-callers
returns-clause-callers c =
    callers_still c.args.self.now c.drain.new.self
    (subst (λ (w : PlayedWorld). Keeps w c.drain.new.self) c.self.view_is c.drain.ensures.keeps) (subst (λ (w : PlayedWorld). Adds w c.drain.new.self) c.self.view_is c.drain.ensures.adds)

pub returns-clause-ends : goal.returns-clause-ends
returns-clause-ends c =
    ends_still c.args.self.now c.drain.new.self
    (subst (λ (w : PlayedWorld). Keeps w c.drain.new.self) c.self.view_is c.drain.ensures.keeps) (subst (λ (w : PlayedWorld). Adds w c.drain.new.self) c.self.view_is c.drain.ensures.adds)

pub returns-clause-calls : goal.returns-clause-calls
returns-clause-calls c = calls_still c.args.self.now c.drain.new.self (subst (λ (w : PlayedWorld). Adds w c.drain.new.self) c.self.view_is c.drain.ensures.adds)
