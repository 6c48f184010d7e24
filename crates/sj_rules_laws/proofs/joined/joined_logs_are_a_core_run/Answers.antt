use Rattle.std.proofs.Common.{length}
use Rattle.sj_rules.specs.Party.{play_of}
use Rattle.sj_rules.specs.Start.{core_start}
use Rattle.sj_joined_lemmas.proofs.HistoryLemmas.{log_runs}
use Rattle.sj_joined_lemmas.proofs.JoinedRunLemmas.{logs_join}
use Rattle.sj_joined_lemmas.proofs.OrderLemmas.{joined_once}
use Rattle.sj_rules_laws.proofs.JoinedFileLemmas.{world_of, file_joined_run, lines_are_history, lines_are_run, own_joined_run}
use Rattle.sj_rules_laws.proofs.PlayLemmas.{own_play}
use Rattle.sj_rules_laws.proofs.joined.joined_logs_are_a_core_run.Goals as goal

pub returns-clause-joined : goal.returns-clause-joined
returns-clause-joined c = λ file play pick blank workers lost all. logs_join play pick blank (length file.parties) (core_start file) workers lost all

pub returns-clause-one : goal.returns-clause-one
returns-clause-one c = λ logs lines others a b. joined_once logs lines others a b

pub returns-clause-run : goal.returns-clause-run
returns-clause-run c = λ file pick blank workers lost lines picks all joined.
    let r = file_joined_run file (play_of file) pick picks blank workers lost all lines joined in
    let core = world_of file (play_of file) pick picks blank workers lost all lines joined in (
      core,
      r.log,
      log_runs (play_of file) pick picks lines (core_start file) core r.log,
      r,
    )

pub returns-clause-plays : goal.returns-clause-plays
returns-clause-plays c = λ file play pick blank workers lost lines accepted same picks all joined. (
  world_of file play pick picks blank workers lost all lines joined,
  lines_are_history file play pick picks blank workers lost all accepted same lines joined,
  lines_are_run file play pick picks blank workers lost all accepted same lines joined,
  own_joined_run file play pick picks blank workers lost all accepted same lines joined,
)

pub returns-clause-own : goal.returns-clause-own
returns-clause-own c = λ file. own_play file
