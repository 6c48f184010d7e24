use Rattle.sj_semantics_laws.proofs.MomentLemmas.{run_is_unshared}
use Rattle.sj_semantics_laws.proofs.runs.runs_lead_to_unshared_worlds.Goals as goal

pub returns : goal.returns
returns c = run_is_unshared
