use Rattle.sj_semantics_laws.proofs.OrderLemmas.{run_order}
use Rattle.sj_semantics_laws.proofs.runs.sessions_are_accepted_in_order.Goals as goal

pub returns : goal.returns
returns c = run_order
