use Rattle.std.proofs.Common.{◌∙◌}
use Rattle.sj_core.proofs.node_world.NodeWorld.take_all.Goals as goal
use Rattle.sj_core.proofs.BreakLemmas.{left_took}
use Rattle.sj_core.proofs.DrainLemmas.{fewer_left, took_all, took_one}

pub loop-smaller : goal.loop-smaller
loop-smaller c =
    let tried = c.in_ok-takes.ensures.done c.if-branch.true in
    fewer_left c.loop.self c.takes.new.self tried.line c.takes.ensures.reached tried.steps.listed

pub loop-preserved : goal.loop-preserved
loop-preserved c =
    let kept = c.loop.invariant in
    let tried = c.in_ok-takes.ensures.done c.if-branch.true in
    record {
      reached = c.takes.ensures.reached;
      file = c.takes.ensures.file ∙ kept.file;
      count = c.takes.ensures.count ∙ kept.count;
      ahead = took_one c.args.self.now c.loop.self c.takes.new.self c.args.party c.args.from kept.file kept.ahead tried;
      left = left_took c.args.self.now c.loop.self c.takes.new.self c.args.party c.args.from kept.file kept.left tried;
    }

pub returns-clause-ok : goal.returns-clause-ok
returns-clause-ok c =
    took_all c.args.self.now c.loop.self c.takes.new.self c.args.party c.args.from c.loop.invariant.reached c.loop.invariant.ahead
    (c.in_ok-takes.ensures.stays c.if-branch.false) (c.in_ok-takes.ensures.none c.if-branch.false)
