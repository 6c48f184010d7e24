use Rattle.std.proofs.Common.{◌∙◌, ◌+◌, ap, arith}
use Rattle.sj_tool.proofs.TellingLemmas.{stand_more, stand_over}
use Rattle.sj_tool.proofs.sums.steps_told.Goals as goal

pub loop-stand-preserved : goal.loop-stand-preserved
loop-stand-preserved c =
    stand_more c.args.stands.now c.loop-stand.stand-index c.loop-stand.count c.in_ok-count.count _ _ c.loop-stand-test.true c.loop-stand.invariant
    (c.in_ok-count.ensures ∙ ap (λ k. c.loop-stand.count + k) c.from.ensures)

pub returns : goal.returns
returns c = let over = stand_over c.args.stands.now c.loop-stand.stand-index (omega (arith, c.loop-stand-test.false)) in omega (arith, over, c.loop-stand.invariant)
