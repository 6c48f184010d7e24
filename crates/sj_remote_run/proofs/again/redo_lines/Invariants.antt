use Rattle.sj_remote_run.specs.Again.{WentFor}
use Rattle.sj_remote_run.proofs.again.redo_lines.Given as goal

abbrev pub invariant-loop-line : goal.invariant-loop-line
invariant-loop-line l = WentFor l.fn.lanes.outs.items l.fn.node l.lanes.outs.items l.node
