use Rattle.std.proofs.Common.{[], ◌∷◌}
use Rattle.crossbeam_deque.specs.Handles.{worker_port, worker_view}
use Rattle.sj_steal.proofs.RuleLemmas.{puts}
use Rattle.sj_steal.proofs.deals.put.Goals as goal

pub push_as-requires-clause-pushes : goal.push_as-requires-clause-pushes
push_as-requires-clause-pushes g c = puts (worker_port c.args.member.now.own) (worker_view c.args.member.now.own) (c.args.job ∷ []) c.requires.part
