use Rattle.sj_forward_laws.proofs.RunLemmas.{quiet_run_ends}
use Rattle.sj_forward_laws.proofs.runs.a_quiet_run_is_at_the_end.Goals as goal

pub returns : goal.returns
returns c = λ file turns w accepted run quiet. quiet_run_ends file accepted turns w run quiet
