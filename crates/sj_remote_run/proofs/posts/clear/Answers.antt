use Rattle.std.proofs.Common.{◌<◌, ◌≤◌, ℕ, subst, sym}
use Rattle.sj_remote_run.proofs.PostLemmas.{clear_all, clear_more}
use Rattle.sj_remote_run.proofs.posts.clear.Goals as goal

pub loop-at-preserved : goal.loop-at-preserved
loop-at-preserved c =
    clear_more c.loop-at.outs c.loop-at.at c.clear.new.self (subst (λ (n : ℕ). c.loop-at.at < n) (sym c.loop-at.auto.outs) c.loop-at-test.true) c.clear.ensures c.loop-at.invariant

pub returns : goal.returns
returns c = record { clear = clear_all c.loop-at.outs c.loop-at.at (subst (λ (n : ℕ). n ≤ c.loop-at.at) (sym c.loop-at.auto.outs) c.loop-at-test.false) c.loop-at.invariant }
