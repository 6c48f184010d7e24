use Rattle.sj_node.proofs.RequestLemmas.{accept_done, request_done}
use Rattle.sj_node.proofs.laws.openings_are_rows.Goals as goal

pub returns-clause-requests : goal.returns-clause-requests
returns-clause-requests c = request_done

pub returns-clause-accepts : goal.returns-clause-accepts
returns-clause-accepts c = accept_done
