use Rattle.sj_node.proofs.SeatLemmas.{call_done}
use Rattle.sj_node.proofs.laws.calls_are_rows.Goals as goal

pub returns : goal.returns
returns c = call_done
