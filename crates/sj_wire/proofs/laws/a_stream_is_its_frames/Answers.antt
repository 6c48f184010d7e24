use Rattle.sj_wire.proofs.CuttingLemmas.{stream_is}
use Rattle.sj_wire.proofs.laws.a_stream_is_its_frames.Goals as goal

pub returns : goal.returns
returns c = λ calls fits. (stream_is calls fits).0
