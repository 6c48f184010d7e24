use Rattle.sj_wire.proofs.StreamLemmas.{whole_stays}
use Rattle.sj_wire.proofs.laws.a_frame_stays.Goals as goal

pub returns : goal.returns
returns c = λ bytes behind more f fits is. whole_stays bytes more fits is
