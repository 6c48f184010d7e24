use Rattle.sj_resp.proofs.StayLemmas.{refusal_stays}
use Rattle.sj_resp.proofs.laws.a_refusal_stays.Goals as goal

pub returns : goal.returns
returns c = λ bytes more e is. refusal_stays bytes more e is
