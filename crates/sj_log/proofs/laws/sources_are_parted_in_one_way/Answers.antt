use Rattle.sj_log.proofs.PartLemmas.{one_parting}
use Rattle.sj_log.proofs.laws.sources_are_parted_in_one_way.Goals as goal

pub returns : goal.returns
returns c = one_parting
