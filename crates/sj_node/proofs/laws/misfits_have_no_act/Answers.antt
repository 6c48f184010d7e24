use Rattle.sj_node.proofs.UnfitLemmas.{no_act}
use Rattle.sj_node.proofs.laws.misfits_have_no_act.Goals as goal

pub returns : goal.returns
returns c = no_act
