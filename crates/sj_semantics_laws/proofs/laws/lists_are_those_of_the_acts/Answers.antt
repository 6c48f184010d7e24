use Rattle.sj_semantics_laws.proofs.TakenLemmas.{run_sent, run_takers}
use Rattle.sj_semantics_laws.proofs.laws.lists_are_those_of_the_acts.Goals as goal

pub returns-clause-sent : goal.returns-clause-sent
returns-clause-sent c = run_sent

pub returns-clause-taken : goal.returns-clause-taken
returns-clause-taken c = run_takers
