use Rattle.sj_semantics_laws.proofs.DelegatedLemmas.{delegated_nowhere}
use Rattle.sj_semantics_laws.proofs.OnItsWayLemmas.{delegating_sends}
use Rattle.sj_semantics_laws.proofs.runs.a_delegated_end_is_bound_nowhere_until_it_is_taken.Goals as goal

pub returns-clause-sent : goal.returns-clause-sent
returns-clause-sent c = delegating_sends

pub returns-clause-bound : goal.returns-clause-bound
returns-clause-bound c = delegated_nowhere
