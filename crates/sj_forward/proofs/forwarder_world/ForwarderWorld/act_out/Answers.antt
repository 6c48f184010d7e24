use Rattle.sj_forward.proofs.forwarder_world.ForwarderWorld.act_out.Goals as goal
use Rattle.std.proofs.Common.{◌∙◌}
use Rattle.sj_rules.specs.World.{Act}
use Rattle.sj_forward.proofs.DrainLemmas.{acted_one, acted_out, fewer_left}
use Rattle.sj_forward.specs.Draining.{ActsOut}
use Rattle.sj_forward.proofs.BreakLemmas.{left_acted}
use Rattle.sj_forward.proofs.FrontLemmas.{first_stays}
use Rattle.sj_forward.proofs.ResultLemmas.{or_err}

pub loop-smaller : goal.loop-smaller
loop-smaller c =
    let tried = c.in_ok-tries.ensures.done c.if-branch.true in
    fewer_left c.loop.self c.tries.new.self c.args.party Act c.tries.ensures.reached tried

pub loop-preserved : goal.loop-preserved
loop-preserved c =
    let kept = c.loop.invariant in
    let tried = c.in_ok-tries.ensures.done c.if-branch.true in
    record {
      reached = c.tries.ensures.reached;
      file = c.tries.ensures.file ∙ kept.file;
      count = c.tries.ensures.count ∙ kept.count;
      ahead = acted_one c.args.self.now c.loop.self c.tries.new.self c.args.party kept.file kept.ahead tried;
      left = left_acted c.args.self.now c.loop.self c.tries.new.self c.args.party kept.file kept.left tried;
    }

pub returns-clause-ok : goal.returns-clause-ok
returns-clause-ok c =
    acted_out c.args.self.now c.loop.self c.tries.new.self c.args.party c.loop.invariant.file c.loop.invariant.reached c.loop.invariant.ahead
    (c.in_ok-tries.ensures.stays c.if-branch.false) (c.in_ok-tries.ensures.none c.if-branch.false)

pub returns-in_err-tries-clause-err : goal.returns-in_err-tries-clause-err
returns-in_err-tries-clause-err c =
    or_err c.from_residual.result
    (first_stays (ActsOut c.args.self.now c.args.party) (ActsOut c.args.self.now c.args.party) c.args.self.now c.loop.self c.tries.new.self c.loop.invariant.left c.in_err-tries.ensures.err)
