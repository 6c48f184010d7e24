use Rattle.std.proofs.Common.{ap, ◌∙◌}
use Rattle.sj_remote_run.specs.Posts.{frames_on}
use Rattle.sj_remote_run.proofs.PostLemmas.{clear_push}
use Rattle.sj_remote_run.proofs.catching.new_lanes.Goals as goal

pub loop-init : goal.loop-init
loop-init c = λ q. ap (λ l. frames_on l q) c.new-outs.ensures.items

pub loop-preserved : goal.loop-preserved
loop-preserved c = λ q. ap (λ l. frames_on l q) c.in_ok-push.ensures.items ∙ clear_push c.loop.outs.items c.new.result c.loop.invariant c.new.ensures q
