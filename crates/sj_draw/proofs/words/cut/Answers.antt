use Rattle.std.proofs.Common.{arith}
use Rattle.sj_draw.proofs.WordLemmas.{before_found, behind_found, before_none, behind_none}
use Rattle.sj_draw.proofs.words.cut.Goals as goal

pub returns-then-b-at-clause-before : goal.returns-then-b-at-clause-before
returns-then-b-at-clause-before c = before_found c.args.at c.args.text.now c.loop-i.i c.loop-i.invariant c.loop-i-test.true c.if-b-at.true

pub returns-then-b-at-clause-behind : goal.returns-then-b-at-clause-behind
returns-then-b-at-clause-behind c = behind_found c.args.at c.args.text.now c.loop-i.i c.loop-i.invariant c.loop-i-test.true c.if-b-at.true

pub returns-clause-before : goal.returns-clause-before
returns-clause-before c = before_none c.args.at c.args.text.now c.loop-i.i c.loop-i.invariant (omega (arith, c.loop-i-test.false, c.loop-i.auto.i-end))

pub returns-clause-behind : goal.returns-clause-behind
returns-clause-behind c = behind_none c.args.at c.args.text.now c.loop-i.i c.loop-i.invariant (omega (arith, c.loop-i-test.false, c.loop-i.auto.i-end))
