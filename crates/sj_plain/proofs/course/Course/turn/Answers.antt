use Rattle.std.proofs.Common.{◌∙◌, arith}
use Rattle.sj_plain.specs.Finish.{ActsOut}
use Rattle.sj_plain.proofs.CourseLemmas.{goes_on}
use Rattle.sj_plain.proofs.FinishingLemmas.{acts_again, breaks_at_once, breaks_on, or_err}
use Rattle.sj_plain.proofs.course.Course.turn.Goals as goal

pub returns-in_err-tried-clause-on : goal.returns-in_err-tried-clause-on
returns-in_err-tried-clause-on c = goes_on c.args.self.now c.loop.self c.tried-in-loop.new.self c.loop.invariant.on c.tried-in-loop.ensures.on

pub loop-preserved : goal.loop-preserved
loop-preserved c = record {
  on = goes_on c.args.self.now c.loop.self c.tried-in-loop.new.self c.loop.invariant.on c.tried-in-loop.ensures.on;
  ordered = c.tried-in-loop.ensures.ordered;
  count = c.tried-in-loop.ensures.count ∙ c.loop.invariant.count;
  ahead = acts_again c.args.party c.args.self.now c.loop.self c.tried-in-loop.new.self c.loop.invariant.ahead (c.in_ok-tried.ensures.done c.if-branch.true);
  busy = omega (arith, c.in_ok-tried.ensures.busy c.if-branch.true);
}

pub returns-else-branch-clause-on : goal.returns-else-branch-clause-on
returns-else-branch-clause-on c = goes_on c.args.self.now c.loop.self c.tried-in-loop.new.self c.loop.invariant.on c.tried-in-loop.ensures.on

pub returns-in_err-acted-clause-err : goal.returns-in_err-acted-clause-err
returns-in_err-acted-clause-err c = or_err c.from_residual.result (breaks_at_once c.args.party c.args.self.now c.tried.new.self c.in_err-acted.ensures.err)

pub returns-in_err-tried-clause-err : goal.returns-in_err-tried-clause-err
returns-in_err-tried-clause-err c =
    or_err c.from_residual-in_err-tried.result
    (breaks_on (ActsOut c.args.party) (ActsOut c.args.party) c.args.self.now c.loop.self c.tried-in-loop.new.self c.loop.invariant.ahead
    (breaks_at_once c.args.party c.loop.self c.tried-in-loop.new.self c.in_err-tried.ensures.err))
