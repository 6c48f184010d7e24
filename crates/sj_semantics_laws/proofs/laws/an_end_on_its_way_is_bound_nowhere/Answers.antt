use Rattle.sj_semantics_laws.proofs.HolderLemmas.{none_on_the_way}
use Rattle.sj_semantics_laws.proofs.laws.an_end_on_its_way_is_bound_nowhere.Goals as goal

pub returns : goal.returns
returns c = none_on_the_way
