use Rattle.crossbeam_deque.specs.Handles.{worker_port, worker_view}
use Rattle.sj_steal.proofs.RuleLemmas.{lends}
use Rattle.sj_steal.proofs.hires.lend.Goals as goal

pub another-pass-requires : goal.another-pass-requires
another-pass-requires g c = lends (worker_port c.args.member.now.own) (worker_view c.args.member.now.own) c.requires
