use Rattle.std.proofs.Common.{length}
use Rattle.sj_joined_lemmas.proofs.JoinedRunLemmas.{logs_join}
use Rattle.sj_seat_laws.specs.SeatedPlay.{seated_play}
use Rattle.sj_seat_laws.specs.SeatsStart.{seats_core}
use Rattle.sj_seat_laws.proofs.SeatsRunLemmas.{world_of, run_joined, lines_are_run}
use Rattle.sj_seat_laws.proofs.laws.joined_logs_are_a_seated_core_run.Goals as goal

pub returns-clause-joined : goal.returns-clause-joined
returns-clause-joined c = λ file calls pick blank workers lost all. logs_join (seated_play file) pick blank (length file.parties) (seats_core file calls) workers lost all

pub returns-clause-run : goal.returns-clause-run
returns-clause-run c = λ file calls pick blank workers lost lines accepted picks all joined. (
  world_of file calls accepted pick picks blank workers lost all lines joined,
  (run_joined file calls accepted pick picks blank workers lost all lines joined).log,
  lines_are_run file calls accepted pick picks blank workers lost all lines joined,
  run_joined file calls accepted pick picks blank workers lost all lines joined,
)
