use Rattle.std.proofs.Common.{arith}
use Rattle.sj_talk.proofs.OutputLemmas.{line_first, line_last}
use Rattle.sj_talk.proofs.output.behind.Goals as goal

pub returns-then-end-left-clause-lines : goal.returns-then-end-left-clause-lines
returns-then-end-left-clause-lines c = line_first c.args.left.now c.args.end c.requires.first (omega arith)

pub returns-else-end-left-clause-lines : goal.returns-else-end-left-clause-lines
returns-else-end-left-clause-lines c = line_last c.args.left.now c.args.end c.requires.first (omega arith) c.requires.some
