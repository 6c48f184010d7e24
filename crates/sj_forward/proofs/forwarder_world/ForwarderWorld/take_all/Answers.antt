use Rattle.std.proofs.Common.{◌∙◌}
use Rattle.sj_rules.specs.World.{Deliver}
use Rattle.sj_forward.proofs.forwarder_world.ForwarderWorld.take_all.Goals as goal
use Rattle.sj_forward.specs.Draining.{Empties}
use Rattle.sj_forward.proofs.BreakLemmas.{left_took}
use Rattle.sj_forward.proofs.FrontLemmas.{first_stays}
use Rattle.sj_forward.proofs.ResultLemmas.{or_err}
use Rattle.sj_forward.proofs.DrainLemmas.{fewer_left, took_all, took_one}

pub loop-smaller : goal.loop-smaller
loop-smaller c =
    let tried = c.in_ok-tries.ensures.done c.if-branch.true in
    fewer_left c.loop.self c.tries.new.self c.args.party (Deliver c.args.from) c.tries.ensures.reached tried

pub loop-preserved : goal.loop-preserved
loop-preserved c =
    let kept = c.loop.invariant in
    let tried = c.in_ok-tries.ensures.done c.if-branch.true in
    record {
      reached = c.tries.ensures.reached;
      file = c.tries.ensures.file ∙ kept.file;
      count = c.tries.ensures.count ∙ kept.count;
      ahead = took_one c.args.self.now c.loop.self c.tries.new.self c.args.party c.args.from kept.file kept.ahead tried;
      left = left_took c.args.self.now c.loop.self c.tries.new.self c.args.party c.args.from kept.file kept.left tried;
    }

pub returns-clause-ok : goal.returns-clause-ok
returns-clause-ok c =
    took_all c.args.self.now c.loop.self c.tries.new.self c.args.party c.args.from c.loop.invariant.ahead
    (c.in_ok-tries.ensures.stays c.if-branch.false) (c.in_ok-tries.ensures.none c.if-branch.false)

pub returns-in_err-tries-clause-err : goal.returns-in_err-tries-clause-err
returns-in_err-tries-clause-err c =
    let R = Empties c.args.self.now c.args.party c.args.from in
    or_err c.from_residual.result (first_stays R R c.args.self.now c.loop.self c.tries.new.self c.loop.invariant.left c.in_err-tries.ensures.err)
