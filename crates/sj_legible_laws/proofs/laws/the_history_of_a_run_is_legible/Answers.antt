use Rattle.sj_legible_laws.proofs.HistoryLemmas.{history_legible}
use Rattle.sj_legible_laws.proofs.laws.the_history_of_a_run_is_legible.Goals as goal

pub returns : goal.returns
returns c = λ text file pick history core few is accepted picks h. history_legible text file few is accepted pick picks history core h
