use Rattle.sj_semantics_laws.proofs.BoundLemmas.{want_bound}
use Rattle.sj_semantics_laws.proofs.laws.steps_name_bound_ends.Goals as goal

pub returns : goal.returns
returns c = want_bound
