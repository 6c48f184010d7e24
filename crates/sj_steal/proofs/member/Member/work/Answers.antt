use Rattle.sj_steal.specs.Runs.{HasRun}
use Rattle.sj_steal.proofs.RunLemmas.{ran_later}
use Rattle.sj_steal.proofs.MemberLemmas.{same_later}
use Rattle.sj_steal.proofs.member.Member.work.Goals as goal

pub returns : goal.returns
returns g c =
    let own = c.own_jobs.ensures in
    let others = c.stolen_jobs.ensures in
    record {
      member = others.member;
      same = same_later _ _ _ own.same others.same;
      ran = ran_later (HasRun g.J.Job.number_of g.J.Job.ran) _ _ _ _ _ _
          own.ran others.ran;
      room = others.room;
    }
