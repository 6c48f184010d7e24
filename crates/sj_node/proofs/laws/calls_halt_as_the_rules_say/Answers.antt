use Rattle.sj_node.proofs.SeatLemmas.{call_halts}
use Rattle.sj_node.proofs.laws.calls_halt_as_the_rules_say.Goals as goal

pub returns : goal.returns
returns c = call_halts
