use Rattle.sj_remote_run.specs.Posts.{AreClear}
use Rattle.sj_remote_run.proofs.catching.new_lanes.Given as goal

-- nothing was pushed on the lanes that are there
abbrev pub invariant-loop : goal.invariant-loop
invariant-loop l = AreClear l.outs.items
