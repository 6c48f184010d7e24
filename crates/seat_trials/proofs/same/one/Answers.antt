use denote.Exit.{no}
use denote.Param.Send.{arg_send, param_send}
use Rattle.seat_trials.proofs.same.one.Goals as goal

pub run-requires-send-C : goal.run-requires-send-C
run-requires-send-C g c κs within = param_send 2 _ (arg_send _ no _ c.written_crosses.ensures)
