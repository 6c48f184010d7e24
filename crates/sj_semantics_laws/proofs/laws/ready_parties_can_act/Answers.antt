use Rattle.sj_semantics_laws.proofs.StateLemmas.{ready_can_act}
use Rattle.sj_semantics_laws.proofs.laws.ready_parties_can_act.Goals as goal

pub returns : goal.returns
returns c = ready_can_act
