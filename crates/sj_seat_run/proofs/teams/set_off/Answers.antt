use denote.Exit.{no}
use denote.Param.Send.{arg_send, param_send}
use Rattle.sj_seat_run.proofs.SendLemmas.{runner_send}
use Rattle.sj_seat_run.proofs.teams.set_off.Goals as goal

pub for_each_mut-requires-send-T : goal.for_each_mut-requires-send-T
for_each_mut-requires-send-T g c κs within =
    param_send 1 _
    (arg_send _ no _
    (runner_send _ _ _ _ c.type_bounds.send-O c.type_bounds.send-I c.type_bounds.sync-G c.node_crosses.ensures c.table_crosses.ensures _ c.type_bounds.send-C))
