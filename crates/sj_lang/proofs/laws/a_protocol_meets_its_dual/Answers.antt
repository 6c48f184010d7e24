use Rattle.sj_lang.proofs.MeetLemmas.{meets_dual}
use Rattle.sj_lang.proofs.laws.a_protocol_meets_its_dual.Goals as goal

pub returns : goal.returns
returns c = meets_dual
