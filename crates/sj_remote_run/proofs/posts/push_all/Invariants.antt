use Rattle.sj_remote_run.proofs.PostLemmas.{Pushing}
use Rattle.sj_remote_run.proofs.posts.push_all.Given as goal

abbrev pub invariant-loop-to : goal.invariant-loop-to
invariant-loop-to l = Pushing l.fn.lanes.outs.items l.fn.node l.lanes.outs.items l.node l.to
