use Rattle.std.proofs.Common.{◌≡◌, ◌<◌, ℕ, []}
use Rattle.sj_remote_run.specs.Posts.{frames_on}
use Rattle.sj_remote_run.proofs.posts.clear.Given as goal

-- the lanes before that one are clear
abbrev pub invariant-loop-at : goal.invariant-loop-at
invariant-loop-at l = (q : ℕ) → q < l.at → frames_on l.outs q ≡ []
