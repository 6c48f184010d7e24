use Rattle.sj_node.proofs.SeatLemmas.{head_there}
use Rattle.sj_node.proofs.laws.heads_are_untaken.Goals as goal

pub returns : goal.returns
returns c = head_there
