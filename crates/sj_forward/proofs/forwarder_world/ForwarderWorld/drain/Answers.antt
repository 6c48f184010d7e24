use Rattle.std.proofs.Common.{length, ◌∙◌}
use Rattle.sj_forward.specs.ForwarderWorld.{forwarders_in}
use Rattle.sj_forward.proofs.forwarder_world.ForwarderWorld.drain.Goals as goal
use Rattle.sj_forward.proofs.RoundLemmas.{ahead_round, drained, fewer_after, left_quiet}
use Rattle.sj_forward.proofs.BreakLemmas.{first_round, left_round}
use Rattle.sj_forward.proofs.FrontLemmas.{broken_off}
use Rattle.sj_forward.proofs.ResultLemmas.{or_err}
use Rattle.sj_forward.proofs.ForwarderWorldLemmas.{drains}

pub loop-smaller : goal.loop-smaller
loop-smaller c = fewer_after c.loop.self c.round_goes.new.self c.round_goes.ensures.reached (c.in_ok-round_goes.ensures.more c.if-branch.true)

pub loop-preserved : goal.loop-preserved
loop-preserved c =
    let kept = c.loop.invariant in
    record {
      reached = c.round_goes.ensures.reached;
      file = c.round_goes.ensures.file ∙ kept.file;
      count = c.round_goes.ensures.count ∙ kept.count;
      ahead =
          ahead_round c.args.self.now c.loop.self c.round_goes.new.self (length (forwarders_in c.args.self.now)) (length (forwarders_in c.loop.self)) kept.file kept.count kept.ahead c.in_ok-round_goes.ensures.ok
          (c.in_ok-round_goes.ensures.more c.if-branch.true);
      left =
          left_round _ c.args.self.now c.loop.self c.round_goes.new.self (length (forwarders_in c.args.self.now)) (length (forwarders_in c.loop.self)) kept.file kept.count kept.left
          c.in_ok-round_goes.ensures.ok (c.in_ok-round_goes.ensures.more c.if-branch.true);
    }

abbrev ending : goal.returns-clause-ok
ending c =
    let kept = c.loop.invariant in
    drained c.args.self.now c.loop.self c.round_goes.new.self (length (forwarders_in c.args.self.now)) (length (forwarders_in c.loop.self)) kept.file kept.count kept.ahead c.in_ok-round_goes.ensures.ok
    (c.in_ok-round_goes.ensures.none c.if-branch.false)

pub returns-clause-ok : goal.returns-clause-ok
returns-clause-ok c = ending c

pub returns-clause-quiet : goal.returns-clause-quiet
returns-clause-quiet c =
    left_quiet c.args.self.now c.round_goes.new.self (length (forwarders_in c.args.self.now)) (c.round_goes.ensures.file ∙ c.loop.invariant.file) (c.round_goes.ensures.count ∙ c.loop.invariant.count) (ending c)

pub returns-in_err-round_goes-clause-err : goal.returns-in_err-round_goes-clause-err
returns-in_err-round_goes-clause-err c =
    let kept = c.loop.invariant in
    or_err c.from_residual.result
    (broken_off _ c.args.self.now c.round_goes.new.self
    (first_round _ c.args.self.now c.loop.self c.round_goes.new.self (length (forwarders_in c.args.self.now)) (length (forwarders_in c.loop.self)) kept.file kept.count kept.left c.in_err-round_goes.ensures.err)
    (drains c.args.self.now c.requires.reached))
