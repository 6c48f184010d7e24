use Rattle.std.proofs.Common.{map, arith}
use Rattle.sj_end.specs.Lines.{line_at}
use Rattle.sj_told.proofs.TellLemmas.{all_told, first_ahead, next_ahead}
use Rattle.sj_told.proofs.ends.ends_told.Goals as goal

pub loop-line-init : goal.loop-line-init
loop-line-init c = first_ahead (map line_at c.args.lines.now) c.args.connects c.in_ok-ends.ends.items c.in_ok-ends.ensures

pub loop-line-preserved : goal.loop-line-preserved
loop-line-preserved c =
    next_ahead c.args.lines.now c.loop-line.line-index c.args.connects _ c.loop-line.ends.items c.tell_line.new.ends.items c.loop-line-test.true c.loop-line.invariant
    c.in_ok-tell_line.ensures

pub returns : goal.returns
returns c = all_told c.args.lines.now c.loop-line.line-index c.args.connects c.loop-line.ends.items (omega (arith, c.loop-line-test.false)) c.loop-line.invariant
