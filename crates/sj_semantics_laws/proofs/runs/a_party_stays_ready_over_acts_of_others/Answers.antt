use Rattle.sj_semantics_laws.proofs.MomentLemmas.{run_is_unshared, stays_over_acts}
use Rattle.sj_semantics_laws.proofs.runs.a_party_stays_ready_over_acts_of_others.Goals as goal

pub returns : goal.returns
returns c = λ file ps qs w v p few run. stays_over_acts w v p qs (run_is_unshared file ps w few run)
