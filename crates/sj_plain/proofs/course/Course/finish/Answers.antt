use Rattle.std.proofs.Common.{◌∙◌}
use Rattle.sj_plain.proofs.CourseLemmas.{goes_on}
use Rattle.sj_plain.proofs.FinishingLemmas.{breaks_in_round, last_round, next_round, or_err}
use Rattle.sj_plain.proofs.course.Course.finish.Goals as goal

pub returns-in_err-round-clause-on : goal.returns-in_err-round-clause-on
returns-in_err-round-clause-on c = goes_on c.args.self.now c.loop.self c.round.new.self c.loop.invariant.on c.round.ensures.on

pub loop-preserved : goal.loop-preserved
loop-preserved c = record {
  on = goes_on c.args.self.now c.loop.self c.round.new.self c.loop.invariant.on c.round.ensures.on;
  ordered = c.round.ensures.ordered;
  count = c.round.ensures.count ∙ c.loop.invariant.count;
  ahead = next_round c.args.self.now c.loop.self c.round.new.self c.loop.invariant.ahead c.in_ok-round.ensures.ok (c.in_ok-round.ensures.busy c.if-branch.true);
}

pub returns-clause-on : goal.returns-clause-on
returns-clause-on c = goes_on c.args.self.now c.loop.self c.round.new.self c.loop.invariant.on c.round.ensures.on

pub returns-clause-ok : goal.returns-clause-ok
returns-clause-ok c = last_round c.args.self.now c.loop.self c.round.new.self c.loop.invariant.ahead c.in_ok-round.ensures.ok (c.in_ok-round.ensures.same c.if-branch.false)

pub returns-in_err-round-clause-err : goal.returns-in_err-round-clause-err
returns-in_err-round-clause-err c = or_err c.from_residual.result (breaks_in_round c.args.self.now c.loop.self c.round.new.self c.loop.invariant.ahead c.in_err-round.ensures.err)
