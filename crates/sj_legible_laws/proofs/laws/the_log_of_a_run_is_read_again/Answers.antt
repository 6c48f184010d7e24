use Rattle.sj_log.proofs.PrintedLog.{printed_back}
use Rattle.sj_legible_laws.proofs.HistoryLemmas.{history_legible}
use Rattle.sj_legible_laws.proofs.laws.the_log_of_a_run_is_read_again.Goals as goal

pub returns : goal.returns
returns c = λ text file pick history core version few is accepted picks h v. printed_back version file history v (history_legible text file few is accepted pick picks history core h)
