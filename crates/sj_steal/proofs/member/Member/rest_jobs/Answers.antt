use Rattle.std.proofs.Common.{refl, ◌∙◌}
use Rattle.sj_steal.specs.Runs.{HasRun}
use Rattle.sj_steal.proofs.RunLemmas.{ran_none, ran_later}
use Rattle.sj_steal.proofs.member.Member.rest_jobs.Goals as goal

pub loop-init : goal.loop-init
loop-init g c = (c.requires.back, refl, refl, ran_none (HasRun g.J.Job.number_of g.J.Job.ran) _ _)

pub loop-preserved : goal.loop-preserved
loop-preserved g c =
    let i = c.loop.invariant in
    let s = c.rest_job.ensures in
    (s.back, s.all ∙ i.1, s.put ∙ i.2, ran_later (HasRun g.J.Job.number_of g.J.Job.ran) _ _ _ _ _ _ i.3 s.ran)

pub returns-clause-ran : goal.returns-clause-ran
returns-clause-ran g c = ran_later (HasRun g.J.Job.number_of g.J.Job.ran) _ _ _ _ _ _ c.loop.invariant.3 c.rest_job.ensures.ran
