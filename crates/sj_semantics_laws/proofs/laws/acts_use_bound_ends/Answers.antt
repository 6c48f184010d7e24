use Rattle.sj_semantics_laws.proofs.HolderLemmas.{act_uses_bound}
use Rattle.sj_semantics_laws.proofs.laws.acts_use_bound_ends.Goals as goal

pub returns : goal.returns
returns c = act_uses_bound
