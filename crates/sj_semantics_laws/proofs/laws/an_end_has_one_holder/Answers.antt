use Rattle.sj_semantics_laws.proofs.HolderLemmas.{one_holder}
use Rattle.sj_semantics_laws.proofs.laws.an_end_has_one_holder.Goals as goal

pub returns : goal.returns
returns c = one_holder
