use Rattle.sj_resp.proofs.StayLemmas.{whole_stays}
use Rattle.sj_resp.proofs.laws.a_token_stays.Goals as goal

pub returns : goal.returns
returns c = λ bytes more rest t is. whole_stays bytes more rest t is
