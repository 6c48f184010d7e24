use Rattle.sj_rules.specs.Party.{play_of}
use Rattle.sj_rules.specs.Start.{core_start}
use Rattle.sj_joined_lemmas.proofs.HistoryLemmas.{log_runs}
use Rattle.sj_joined_lemmas.proofs.ReplayLemmas.{step_lined}
use Rattle.sj_rules_laws.proofs.runs.each_history_is_a_core_run.Goals as goal

pub returns-clause-run : goal.returns-clause-run
returns-clause-run c = λ file pick lines core picks h. log_runs (play_of file) pick picks lines (core_start file) core h

pub returns-clause-line : goal.returns-clause-line
returns-clause-line c = λ file core after pick p event h. step_lined (play_of file) pick core p event after h
