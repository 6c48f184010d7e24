use Rattle.std.proofs.Common.{ap, ◌+◌, ◌∙◌}
use Rattle.sj_core.proofs.node_world.NodeWorld.replay.Goals as goal
use Rattle.sj_core.proofs.ReplayLemmas.{follows_next, refused_at}

pub loop-line-preserved : goal.loop-line-preserved
loop-line-preserved c =
    let kept = c.loop-line.invariant in
    record {
      number = ap (λ n. n + 1) kept.number;
      reached = c.follow.ensures.reached;
      file = c.follow.ensures.file ∙ kept.file;
      follows = follows_next c.args.self.now c.loop-line.self c.follow.new.self c.args.lines.now c.loop-line.line-index _ kept.file c.loop-line-test.true kept.follows c.in_default.ensures.ok;
    }

pub returns-in-Err-clause-refused : goal.returns-in-Err-clause-refused
returns-in-Err-clause-refused c =
    let kept = c.loop-line.invariant in
    refused_at c.args.self.now c.loop-line.self c.follow.new.self c.args.lines.now c.loop-line.line-index (c.loop-line.number + 1) _ c.in-Err.refusal kept.file c.loop-line-test.true (ap (λ n. n + 1) kept.number)
    kept.follows c.in-Err.ensures.misfit c.in-Err.ensures.err
