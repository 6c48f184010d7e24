use Rattle.sj_rules.specs.Party.{play_of}
use Rattle.sj_rules.specs.Start.{core_start}
use Rattle.sj_joined_lemmas.proofs.HistoryLemmas.{same_world, replays, no_misfit}
use Rattle.sj_joined_lemmas.proofs.ReplayLemmas.{replay_logs, same_run}
use Rattle.sj_rules_laws.proofs.joined.a_history_is_one_run.Goals as goal

pub returns-clause-world : goal.returns-clause-world
returns-clause-world c = λ file pick lines core other a b. same_world (play_of file) pick lines (core_start file) core other a b

pub returns-clause-again : goal.returns-clause-again
returns-clause-again c = λ file pick lines core a. replays (play_of file) pick lines (core_start file) core a

pub returns-clause-replayed : goal.returns-clause-replayed
returns-clause-replayed c = λ file pick turns r is. let l = replay_logs (play_of file) pick turns (core_start file) r is in (l.log, l.turns)

pub returns-clause-runs : goal.returns-clause-runs
returns-clause-runs c = λ file pick turns others r s a b same. same_run (play_of file) pick turns others (core_start file) r s a b same

pub returns-clause-fits : goal.returns-clause-fits
returns-clause-fits c = λ file pick lines core number logged other a m. no_misfit (play_of file) pick lines (core_start file) core number logged other a m
