use Rattle.std.proofs.Common.{ap, refl, ◌++◌, arith}
use Rattle.sj_steal.specs.Runs.{HasRun}
use Rattle.sj_steal.specs.Members.{own_taken, stolen_by, way_of}
use Rattle.sj_steal.proofs.PieceLemmas.{stays}
use Rattle.sj_steal.proofs.RunLemmas.{ran_none, ran_same}
use Rattle.sj_steal.proofs.MemberLemmas.{map_stays, stolen_more}
use Rattle.sj_steal.proofs.member.Member.stolen_job.Goals as goal

pub returns-in-Some-clause-same : goal.returns-in-Some-clause-same
returns-in-Some-clause-same g c =
    record {
      deque = refl;
      parts = refl;
      put = refl;
      ways = map_stays way_of c.args.self.now.all.items c.args.from c.index_mut.result.now
          c.steal.new.self c.index_mut.ensures.value c.steal.ensures.way;
      most = refl;
      capacity = c.run_into.ensures.capacity;
    }

pub returns-in-None-clause-same : goal.returns-in-None-clause-same
returns-in-None-clause-same g c =
    record {
      deque = refl;
      parts = refl;
      put = refl;
      ways = map_stays way_of c.args.self.now.all.items c.args.from c.index_mut.result.now
          c.steal.new.self c.index_mut.ensures.value c.steal.ensures.way;
      most = refl;
      capacity = refl;
    }

pub returns-in-Some-clause-ran : goal.returns-in-Some-clause-ran
returns-in-Some-clause-ran g c =
    let run = c.run_into.ensures.run in
    stolen_more (HasRun g.J.Job.number_of g.J.Job.ran) (own_taken c.args.self.now) c.args.self.now.done.items _ c.args.self.now.all.items c.args.from
    c.index_mut.result.now c.steal.new.self c.in-Some.job run.0
    (omega (arith, c.requires.from, c.args.self.now.all.ok.0)) c.index_mut.ensures.value run.1 c.in-Some.ensures.taken run.2

pub returns-in-None-clause-ran : goal.returns-in-None-clause-ran
returns-in-None-clause-ran g c =
    ran_same (HasRun g.J.Job.number_of g.J.Job.ran) _ _ _ _
    (ap (λ l. own_taken c.args.self.now ++ l) (stays stolen_by c.args.self.now.all.items c.args.from c.index_mut.result.now c.steal.new.self
    c.index_mut.ensures.value c.in-None.ensures.taken)) refl

pub returns-then-from-worker-clause-ran : goal.returns-then-from-worker-clause-ran
returns-then-from-worker-clause-ran g c = ran_none (HasRun g.J.Job.number_of g.J.Job.ran) _ _
