use Rattle.crossbeam_deque.specs.Handles.{view, worker_port, worker_view}
use Rattle.sj_steal.proofs.RuleLemmas.{returns_to}
use Rattle.sj_steal.proofs.returns.give_back.Goals as goal

pub absorb-requires-clause-rule : goal.absorb-requires-clause-rule
absorb-requires-clause-rule g c =
    returns_to (worker_port c.args.member.now.own) (worker_view c.args.member.now.own) c.args.reach.pass.id (view c.args.reach.pass) c.requires.part
