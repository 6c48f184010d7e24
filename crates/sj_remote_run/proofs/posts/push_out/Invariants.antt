use Rattle.sj_node.specs.Reading.{TakesOut}
use Rattle.sj_remote_run.specs.Posts.{GoesTo}
use Rattle.sj_remote_run.proofs.posts.push_out.Given as goal

abbrev pub invariant-loop : goal.invariant-loop
invariant-loop l = record { goes : GoesTo l.to l.fn.lane l.fn.node l.lane l.node; node : TakesOut l.fn.node l.node }
