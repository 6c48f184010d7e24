use Rattle.sj_replay_laws.proofs.AgainLemmas.{told_again}
use Rattle.sj_replay_laws.proofs.laws.a_log_is_replayed_as_it_was_told.Goals as goal

pub returns : goal.returns
returns c = told_again
