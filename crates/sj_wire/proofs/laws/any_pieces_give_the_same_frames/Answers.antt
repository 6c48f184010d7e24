use Rattle.sj_wire.proofs.CuttingLemmas.{any_cutting}
use Rattle.sj_wire.proofs.laws.any_pieces_give_the_same_frames.Goals as goal

pub returns : goal.returns
returns c = λ calls others fits same over over2. any_cutting calls others fits same over over2
