use Rattle.std.proofs.Common.{◌<◌, length, ◌∙◌, arith}
use Rattle.sj_forward.specs.ForwarderWorld.{forwarders_in}
use Rattle.sj_forward.proofs.forwarder_world.ForwarderWorld.round.Goals as goal
use Rattle.sj_forward.proofs.RoundLemmas.{goes_turn}
use Rattle.sj_forward.proofs.BreakLemmas.{first_turn, left_turn}
use Rattle.sj_forward.proofs.ResultLemmas.{or_err}

pub loop-party-preserved : goal.loop-party-preserved
loop-party-preserved c =
    let kept = c.loop-party.invariant in
    let lt : c.loop-party.party < length (forwarders_in c.args.self.now) = omega (arith, c.loop-party-test.true, c.len-party-end.ensures) in
    record {
      reached = c.turn.ensures.reached;
      file = c.turn.ensures.file ∙ kept.file;
      count = c.turn.ensures.count ∙ kept.count;
      goes =
          goes_turn c.args.self.now c.loop-party.self c.turn.new.self (length (forwarders_in c.args.self.now)) (length (forwarders_in c.loop-party.self)) c.loop-party.party kept.file kept.count kept.goes
          c.in_ok-turn.ensures.ok;
      left =
          left_turn _ c.args.self.now c.loop-party.self c.turn.new.self (length (forwarders_in c.args.self.now)) (length (forwarders_in c.loop-party.self)) c.loop-party.party kept.file kept.count lt
          kept.left c.in_ok-turn.ensures.ok;
    }

pub returns-in_err-turn-clause-err : goal.returns-in_err-turn-clause-err
returns-in_err-turn-clause-err c =
    let kept = c.loop-party.invariant in
    let lt : c.loop-party.party < length (forwarders_in c.args.self.now) = omega (arith, c.loop-party-test.true, c.len-party-end.ensures) in
    or_err c.from_residual.result
    (first_turn _ c.args.self.now c.loop-party.self c.turn.new.self (length (forwarders_in c.args.self.now)) (length (forwarders_in c.loop-party.self)) c.loop-party.party kept.file kept.count lt kept.left
    c.in_err-turn.ensures.err)
