use Rattle.sj_node.proofs.AgreeLemmas.{only_misfits}
use Rattle.sj_node.proofs.laws.only_misfits_have_no_act.Goals as goal

pub returns : goal.returns
returns c = only_misfits
