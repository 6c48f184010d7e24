use Rattle.sj_semantics_laws.proofs.KeepLemmas.{claims_on-act}
use Rattle.sj_semantics_laws.proofs.laws.claims_never_grow.Goals as goal

pub returns : goal.returns
returns c = claims_on-act
