use Rattle.std.proofs.Common.{arith}
use Rattle.sj_told.proofs.CountLemmas.{at_most, count_more, count_over}
use Rattle.sj_told.proofs.counts.messages_told.Goals as goal

pub loop-line-preserved : goal.loop-line-preserved
loop-line-preserved c = record {
  all = count_more c.args.lines.now c.loop-line.line-index c.loop-line.count c.one_if_sent-count.result _ _ c.loop-line-test.true c.loop-line.invariant.all c.one_if_sent-count.ensures;
  few = omega (arith, c.loop-line.invariant.few, at_most c.one_if_sent-count.result _ c.one_if_sent-count.ensures);
}

pub returns : goal.returns
returns c = let over = count_over c.args.lines.now c.loop-line.line-index (omega (arith, c.loop-line-test.false)) in omega (arith, over, c.loop-line.invariant.all)
