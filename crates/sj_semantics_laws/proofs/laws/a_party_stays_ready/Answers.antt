use Rattle.sj_semantics_laws.proofs.MomentLemmas.{stays_over_one}
use Rattle.sj_semantics_laws.proofs.laws.a_party_stays_ready.Goals as goal

pub returns : goal.returns
returns c = stays_over_one
