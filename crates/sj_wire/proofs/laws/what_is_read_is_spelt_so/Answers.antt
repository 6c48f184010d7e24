use Rattle.sj_wire.proofs.FrameTakesLemmas.{front_takes}
use Rattle.sj_wire.proofs.laws.what_is_read_is_spelt_so.Goals as goal

pub returns : goal.returns
returns c = λ bytes behind f fits is. let t = front_takes fits is in (t.0, t.1.spelt, t.1.same)
