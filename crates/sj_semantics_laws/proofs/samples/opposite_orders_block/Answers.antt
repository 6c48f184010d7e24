use Rattle.sj_semantics_laws.proofs.SampleLemmas.{crossed_blocks}
use Rattle.sj_semantics_laws.proofs.samples.opposite_orders_block.Goals as goal

pub returns : goal.returns
returns c = crossed_blocks
