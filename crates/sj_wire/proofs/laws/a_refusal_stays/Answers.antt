use Rattle.sj_wire.proofs.StreamLemmas.{refusal_stays}
use Rattle.sj_wire.proofs.laws.a_refusal_stays.Goals as goal

pub returns : goal.returns
returns c = λ bytes more e is. refusal_stays bytes more is
