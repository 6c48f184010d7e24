use Rattle.std.proofs.Common.{ap, refl, flat_map, ◌++◌}
use Rattle.crossbeam_deque.specs.Handles.{worker_port, worker_view}
use Rattle.sj_steal.specs.Hands.{taken_of}
use Rattle.sj_steal.specs.Runs.{HasRun}
use Rattle.sj_steal.specs.Members.{own_taken, stolen_by}
use Rattle.sj_steal.proofs.RestLemmas.{finds_none, takes_rest}
use Rattle.sj_steal.proofs.RunLemmas.{ran_same}
use Rattle.sj_steal.proofs.MemberLemmas.{own_more}
use Rattle.sj_steal.proofs.member.Member.rest_job.Goals as goal

pub pop_as-requires-clause-fifo : goal.pop_as-requires-clause-fifo
pop_as-requires-clause-fifo g c = λ _. takes_rest (worker_port c.args.self.now.own) (worker_view c.args.self.now.own) 1 c.requires.back.parts

pub pop_as-requires-clause-empty : goal.pop_as-requires-clause-empty
pop_as-requires-clause-empty g c = finds_none (worker_port c.args.self.now.own) (worker_view c.args.self.now.own) c.requires.back.parts

pub returns-in-Some-clause-ran : goal.returns-in-Some-clause-ran
returns-in-Some-clause-ran g c =
    let run = c.run_into.ensures.run in
    own_more (HasRun g.J.Job.number_of g.J.Job.ran) (own_taken c.args.self.now) _ (flat_map stolen_by c.args.self.now.all.items)
    c.args.self.now.done.items _ c.in-Some.job run.0 run.1
    (ap taken_of c.in-Some.ensures.rule.0) run.2

pub returns-in-None-clause-ran : goal.returns-in-None-clause-ran
returns-in-None-clause-ran g c =
    ran_same (HasRun g.J.Job.number_of g.J.Job.ran) _ _ _ _
    (ap (λ v. v.taken ++ flat_map stolen_by c.args.self.now.all.items) c.in-None.ensures.rule.0) refl
