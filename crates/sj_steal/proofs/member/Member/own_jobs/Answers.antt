use Rattle.std.proofs.Common.{arith}
use Rattle.sj_steal.specs.Runs.{HasRun}
use Rattle.sj_steal.proofs.RunLemmas.{ran_none, ran_later}
use Rattle.sj_steal.proofs.MemberLemmas.{same_itself, same_later}
use Rattle.sj_steal.proofs.member.Member.own_jobs.Goals as goal

pub loop-init : goal.loop-init
loop-init g c =
    let free = c.requires.room.free in (
      c.requires.member,
      same_itself c.args.self.now,
      ran_none (HasRun g.J.Job.number_of g.J.Job.ran) _ _,
      omega (arith, c.requires.first),
      omega arith,
    )

pub returns-then-not-own_job-clause-ran : goal.returns-then-not-own_job-clause-ran
returns-then-not-own_job-clause-ran g c = ran_later (HasRun g.J.Job.number_of g.J.Job.ran) _ _ _ _ _ _ c.loop.invariant.2 c.own_job.ensures.ran

pub loop-preserved : goal.loop-preserved
loop-preserved g c =
    let i = c.loop.invariant in
    let s = c.own_job.ensures in
    let few = i.3 in
    let free = i.4 in
    let most = s.same.most in
    let capacity = s.same.capacity in
    let count = s.count in
    let one = s.one in (
      s.member,
      same_later c.args.self.now c.loop.self c.own_job.new.self i.1 s.same,
      ran_later (HasRun g.J.Job.number_of g.J.Job.ran) _ _ _ _ _ _ i.2
          s.ran,
      omega arith,
      omega arith,
    )
