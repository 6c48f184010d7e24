use Rattle.sj_forward_laws.proofs.RunLawsLemmas.{run_ready, run_ready_plain}
use Rattle.sj_forward_laws.proofs.runs.a_party_acts_where_it_is_ready.Goals as goal

pub returns-clause-acts : goal.returns-clause-acts
returns-clause-acts c = λ file turns w p accepted run. run_ready file accepted turns w p run

pub returns-clause-plain : goal.returns-clause-plain
returns-clause-plain c = λ file turns w v p accepted run plain_run ready. run_ready_plain file accepted turns w v p run plain_run ready
