use denote.Exit.{no}
use denote.Param.Send.{arg_send, param_send}
use Rattle.std.proofs.Common.{ap}
use Rattle.sj_check.specs.Held.{file_in}
use Rattle.sj_lang.specs.FileView.{file_of}
use Rattle.sj_seat_local.proofs.PlayedLemmas.{played_so}
use Rattle.sj_seat_local.proofs.SendLemmas.{code_send}
use Rattle.sj_seat_local.proofs.playing.play_lines.Goals as goal

pub run_alone-requires-send-C : goal.run_alone-requires-send-C
run_alone-requires-send-C g c κs within = param_send 3 _ (arg_send _ no _ (code_send _ c.file_shares.ensures c.texts_cross.ensures c.name_crosses.ensures _ _ c.type_bounds.send-S c.type_bounds.send-K))

pub returns : goal.returns
returns g c =
    played_so g.K.Sink.written (file_of (file_in c.args.accepted.now)) (file_of c.file.result.now) c.args.party c.in-Ok-run_alone.end.world c.told_with-told.result c.finish.result
    (ap file_of c.file.ensures.value) c.in-Ok-run_alone.ensures.end c.told_with-told.ensures c.finish.ensures
