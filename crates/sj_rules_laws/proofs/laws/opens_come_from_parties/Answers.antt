use Rattle.sj_rules_laws.proofs.OriginLemmas.{opens_from_party}
use Rattle.sj_rules_laws.proofs.laws.opens_come_from_parties.Goals as goal

pub returns : goal.returns
returns c = λ blank parties pick n origin f sess worked is fits. opens_from_party blank parties pick n origin f sess worked is fits
