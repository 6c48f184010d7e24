use Rattle.sj_node.proofs.RequestLemmas.{accept_halts, request_halts}
use Rattle.sj_node.proofs.laws.openings_halt_as_the_rules_say.Goals as goal

pub returns-clause-requests : goal.returns-clause-requests
returns-clause-requests c = request_halts

pub returns-clause-accepts : goal.returns-clause-accepts
returns-clause-accepts c = accept_halts
