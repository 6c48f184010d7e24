use Rattle.std.proofs.Common.{subst}
use Rattle.std.specs.Prelude.{OnErr}
use Rattle.std.specs.Result.{OnOk}
use Rattle.sj_forward.specs.declared.forwarder_world.ForwarderWorld.{ForwarderWorld}
use Rattle.sj_forward.specs.ForwarderWorld.{StaysIn, Steps, event_at}
use Rattle.sj_forward.proofs.ResultLemmas.{on_err, on_ok}
use Rattle.sj_forward.proofs.WorldLemmas.{forwarded, parties_there, stays_at, step_acts, step_is, step_passed}
use Rattle.sj_forward.proofs.forward.ForwardWorld.step.Goals as goal

pub returns-clause-ok : goal.returns-clause-ok
returns-clause-ok c =
    on_ok c.step.result (step_is c.args.self.now c.step.new.self c.args.party (event_at c.args.turn))
    (subst (λ (old : ForwarderWorld). OnOk c.step.result (Steps old c.args.party (event_at c.args.turn) c.step.new.self)) c.self.view_is c.step.ensures.ok)

pub returns-clause-acts : goal.returns-clause-acts
returns-clause-acts c =
    on_ok c.step.result (step_acts c.args.self.now c.step.new.self c.args.party (event_at c.args.turn))
    (subst (λ (old : ForwarderWorld). OnOk c.step.result (Steps old c.args.party (event_at c.args.turn) c.step.new.self)) c.self.view_is c.step.ensures.ok)

pub returns-clause-passed : goal.returns-clause-passed
returns-clause-passed c =
    on_ok c.step.result (step_passed c.args.self.now c.step.new.self c.args.party (event_at c.args.turn))
    (subst (λ (old : ForwarderWorld). OnOk c.step.result (Steps old c.args.party (event_at c.args.turn) c.step.new.self)) c.self.view_is c.step.ensures.ok)

pub returns-clause-run : goal.returns-clause-run
returns-clause-run c = forwarded c.step.new.self c.step.ensures.reached

pub returns-clause-parties : goal.returns-clause-parties
returns-clause-parties c = parties_there c.step.new.self c.step.ensures.reached

pub returns-clause-err : goal.returns-clause-err
returns-clause-err c =
    on_err c.step.result (stays_at c.args.self.now c.step.new.self)
    (subst (λ (old : ForwarderWorld). OnErr c.step.result (StaysIn old c.step.new.self)) c.self.view_is c.step.ensures.err)
