use Rattle.sj_semantics_laws.proofs.MomentLemmas.{run_is_unshared, holder_is_one}
use Rattle.sj_semantics_laws.proofs.runs.an_end_has_one_holder_in_every_run.Goals as goal

pub returns : goal.returns
returns c = λ file ps w p q e few run. holder_is_one w p q e (run_is_unshared file ps w few run)
