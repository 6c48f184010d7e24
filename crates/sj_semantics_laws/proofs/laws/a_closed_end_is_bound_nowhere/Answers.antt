use Rattle.sj_semantics_laws.proofs.HolderLemmas.{closed_nowhere}
use Rattle.sj_semantics_laws.proofs.laws.a_closed_end_is_bound_nowhere.Goals as goal

pub returns : goal.returns
returns c = closed_nowhere
