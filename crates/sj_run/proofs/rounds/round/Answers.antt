use Rattle.std.proofs.Common.{rules}
use denote.Exit.{yes}
use denote.Param.Send.{arg_send, param_send}
use Rattle.sj_steal.proofs.EachLemmas.{each2_weaker}
use Rattle.sj_work.proofs.SendLemmas.{worker_send}
use Rattle.sj_run.proofs.rounds.round.Goals as goal

pub call_each-requires-send-W : goal.call_each-requires-send-W
call_each-requires-send-W g c κs within =
    param_send 1 _ (arg_send _ yes _ (worker_send _ _ (search c.type_bounds.send-O depth 4) (search c.type_bounds.send-I depth 4) c.node_crosses.ensures))

pub returns : goal.returns
returns g c =
    each2_weaker _ _ (λ x y left. let m = left.met in let shows = left.shows in let leaves = left.leaves in search rules) c.args.workers.items c.in_ok-workers.workers.items
    c.in_ok-workers.ensures
