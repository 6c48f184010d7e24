use Rattle.sj_wire.proofs.FrameReadLemmas.{front_again}
use Rattle.sj_wire.proofs.laws.a_spelling_is_read.Goals as goal

pub returns : goal.returns
returns c = λ f behind is. front_again f behind is
