use Rattle.std.proofs.Common.{length}
use Rattle.sj_forward.specs.ForwarderWorld.{forwarders_in}
use Rattle.sj_forward.proofs.forwarder_world.ForwarderWorld.turn.Goals as goal
use Rattle.sj_forward.proofs.RoundLemmas.{takes_turn}
use Rattle.sj_forward.proofs.BreakLemmas.{first_acts, first_takes}
use Rattle.sj_forward.proofs.ResultLemmas.{on_err, on_ok, or_err}

pub returns-clause-ok : goal.returns-clause-ok
returns-clause-ok c =
    on_ok c.act_out.result
    (λ acts. takes_turn c.args.self.now c.take_each.new.self c.act_out.new.self (length (forwarders_in c.args.self.now)) c.args.party c.take_each.ensures.file c.in_ok-take_each.ensures.ok acts)
    c.act_out.ensures.ok

pub returns-clause-err : goal.returns-clause-err
returns-clause-err c =
    on_err c.act_out.result
    (λ acts. first_acts c.args.self.now c.take_each.new.self c.act_out.new.self (length (forwarders_in c.args.self.now)) c.args.party c.take_each.ensures.file c.in_ok-take_each.ensures.ok acts)
    c.act_out.ensures.err

pub returns-in_err-take_each-clause-err : goal.returns-in_err-take_each-clause-err
returns-in_err-take_each-clause-err c =
    or_err c.from_residual.result (first_takes c.args.self.now c.take_each.new.self (length (forwarders_in c.args.self.now)) c.args.party c.in_err-take_each.ensures.err)
