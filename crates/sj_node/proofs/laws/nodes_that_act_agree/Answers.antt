use Rattle.sj_node.proofs.LetsLemmas.{act_agrees}
use Rattle.sj_node.proofs.laws.nodes_that_act_agree.Goals as goal

pub returns : goal.returns
returns c = act_agrees
